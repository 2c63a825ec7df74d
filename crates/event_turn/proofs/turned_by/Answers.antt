-- `event_turn::turned_by`: what `commands` tells is STORE DATA (`command_event`) on a selected card, with data, as
-- `commanded` asks; any other event is `lived`'s.
use mathlib.Core.Path.{refl, sym, ◌∙◌}
use native.Mathlib.Omega.{arith}
use Rattle.event_replies.proofs.ByKind.{command_event, command_selected, command_data}
use Rattle.event_turn.proofs.turned_by.Goals as goal

pub commanded-requires : goal.commanded-requires
commanded-requires c =
    let q = c.requires in
    let s = c.args in
    let h = sym c.commands.ensures ∙ c.if-commands.true in (
      q.0,
      q.1,
      command_selected s.kind s.p1 s.d.now s.c s.area.now h,
      omega (arith, command_data s.kind s.p1 s.d.now s.c s.area.now h),
    )

pub returns-then-commands : goal.returns-then-commands
returns-then-commands c =
    let s = c.args in
    rw (command_event s.kind s.p1 s.d.now s.c s.area.now
    (sym c.commands.ensures ∙ c.if-commands.true))
    c.commanded.ensures

pub lived-x-requires : goal.lived-x-requires
lived-x-requires c =
    let q = c.requires in
    (q.0, q.1, sym c.commands.ensures ∙ c.if-commands.false)

pub returns : goal.returns
returns c = (refl, rw c.lived_card.ensures c.lived-x.ensures)
