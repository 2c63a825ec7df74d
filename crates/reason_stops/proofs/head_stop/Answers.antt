-- `reason_stops::head_stop`: the four returns are the cases of `head_stop`:
-- a query, an unknown tag, a row that is due, one that is not.
use mathlib.Core.Path.{sym, ◌∙◌}
use borrow.Author.Tests.{eq-eqb, ne_eqb}
use Rattle.reason_stops.specs.Stops.{head_stop}
use Rattle.reason_stops.proofs.head_stop.Goals as goal

pub returns-then-is_query : goal.returns-then-is_query
unfolding head_stop
returns-then-is_query c = rw (c.stop_as.ensures, sym c.is_query.ensures ∙ c.if-is_query.true)

pub returns-then-row-eq0 : goal.returns-then-row-eq0
unfolding head_stop
returns-then-row-eq0 c =
    let r = c.row_of-row.ensures.0 in
    rw (
      c.stop_as-then-row-eq0.ensures,
      sym c.is_query.ensures ∙ c.if-is_query.false,
      ← r,
      eq-eqb _ _ c.if-row-eq0.true,
    )

pub returns-then-is_due : goal.returns-then-is_due
unfolding head_stop
returns-then-is_due c =
    let r = c.row_of-row.ensures.0 in
    rw (
      c.room_stop.ensures,
      sym c.is_query.ensures ∙ c.if-is_query.false,
      ← r,
      ne_eqb _ _ c.if-row-eq0.false,
      sym c.is_due.ensures ∙ c.if-is_due.true,
    )

pub returns : goal.returns
unfolding head_stop
returns c =
    let r = c.row_of-row.ensures.0 in
    rw (
      c.stop_as-2.ensures,
      c.undue_cause-cause.ensures,
      sym c.is_query.ensures ∙ c.if-is_query.false,
      ← r,
      ne_eqb _ _ c.if-row-eq0.false,
      sym c.is_due.ensures ∙ c.if-is_due.false,
    )
