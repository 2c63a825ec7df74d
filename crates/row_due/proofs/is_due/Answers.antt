-- `row_due::is_due`: the four returns are cases of `due`: the records' row or another,
-- each with a mandatory row missing before it or none.
use borrow.Author.Tests.{ne_eqb}
use Rattle.model.specs.Rows.{due, ready_for, none_from}
use Rattle.row_due.proofs.is_due.Goals as goal

pub returns-then-missing_before : goal.returns-then-missing_before
unfolding due ready_for
returns-then-missing_before c = rw c.if-r-eq-RECORD_ROW.true (simp (← c.missing_before.ensures, c.if-missing_before.true))

pub returns-then-r-eq-RECORD_ROW : goal.returns-then-r-eq-RECORD_ROW
unfolding due ready_for
returns-then-r-eq-RECORD_ROW c =
    rw (c.is_rising.ensures, c.if-r-eq-RECORD_ROW.true)
    (simp (← c.missing_before.ensures, c.if-missing_before.false))

pub returns-then-missing_before-2 : goal.returns-then-missing_before-2
unfolding due ready_for
returns-then-missing_before-2 c = simp (← c.missing_before-2.ensures, c.if-missing_before-2.true)

pub returns : goal.returns
unfolding due ready_for none_from
returns c = simp (← c.missing_before-2.ensures, c.if-missing_before-2.false, ne_eqb _ _ c.if-r-eq-RECORD_ROW.false)
