-- `reason_stops::value_stop`: the three cases of `value_stop`, told apart by the row, then by the word.
use borrow.Author.Tests.{eq-eqb, ne_eqb}
use Rattle.reason_stops.specs.Stops.{value_stop}
use Rattle.reason_stops.proofs.value_stop.Goals as goal

pub returns-then-row-eq-TABLE_ROW : goal.returns-then-row-eq-TABLE_ROW
unfolding value_stop
returns-then-row-eq-TABLE_ROW c = rw (c.table_stop.ensures, eq-eqb _ _ c.if-row-eq-TABLE_ROW.true)

pub returns-then-w-eq27268 : goal.returns-then-w-eq27268
unfolding value_stop
returns-then-w-eq27268 c =
    rw (c.stop_as.ensures, ne_eqb _ _ c.if-row-eq-TABLE_ROW.false, eq-eqb _ _ c.if-w-eq27268.true)

pub returns : goal.returns
unfolding value_stop
returns c =
    rw (c.stop_as-2.ensures, ne_eqb _ _ c.if-row-eq-TABLE_ROW.false, ne_eqb _ _ c.if-w-eq27268.false)
