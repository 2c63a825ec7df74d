-- `reason_stops::room_stop`: by `room_so` the place found is rule e's verdict; the two ways are its two cases.
use mathlib.Core.Path.{ap, ◌∙◌}
use Rattle.model.specs.Loads.{file_list}
use Rattle.model.specs.Rules.{room_in}
use Rattle.reason_stops.proofs.Stops.{room_so}
use Rattle.reason_stops.proofs.room_stop.Goals as goal

pub returns-in-At : goal.returns-in-At
returns-in-At c =
    let p = c in
    let s = p.args in
    let e = room_so (file_list s.l) s.row s.h.tag _ _ p.spot_at-spot.ensures
    p.room_of-room.ensures ∙ ap room_in c.in-At.is in
    c.length_stop.ensures ∙ rw e

pub returns-in-Nowhere : goal.returns-in-Nowhere
returns-in-Nowhere c =
    let p = c in
    let s = p.args in
    let e = room_so (file_list s.l) s.row s.h.tag _ _ p.spot_at-spot.ensures
    p.room_of-room.ensures ∙ ap room_in c.in-Nowhere.is in
    rw (c.stop_as.ensures, c.absent_cause.ensures, e)
