-- `reason_stops::table_stop`: `flaw_at` is asked of all from `at` on, which is `drop at` of the data (`table_so`).
use Rattle.model.specs.Loads.{file_list}
use Rattle.reason_stops.proofs.Stops.{table_so}
use Rattle.reason_stops.specs.Stops.{table_stop}
use Rattle.reason_stops.proofs.table_stop.Goals as goal

pub returns : goal.returns
unfolding table_stop
returns c =
    let s = c in
    table_so (file_list s.args.l) s.args.l.count s.args.w s.args.h s.args.at s.args.d.now
    c.flaw_at-flaw.result c.flaw_at-flaw.ensures
