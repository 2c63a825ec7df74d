-- `row_due::due_row`: the three cases of `due_row`: an unknown tag, a row that is due, one that is not.
use borrow.Author.Tests.{eq-eqb, ne_eqb}
use Rattle.model.specs.Rules.{due_row}
use Rattle.row_due.proofs.due_row.Goals as goal

pub returns-then-r-eq0 : goal.returns-then-r-eq0
unfolding due_row
returns-then-r-eq0 c = simp (← c.row_of-r.ensures.0, eq-eqb _ _ c.if-r-eq0.true)

pub returns-then-is_due : goal.returns-then-is_due
unfolding due_row
returns-then-is_due c =
    simp (
      ← c.row_of-r.ensures.0,
      ne_eqb _ _ c.if-r-eq0.false,
      ← c.is_due.ensures,
      c.if-is_due.true,
    )

pub returns : goal.returns
unfolding due_row
returns c =
    simp (
      ← c.row_of-r.ensures.0,
      ne_eqb _ _ c.if-r-eq0.false,
      ← c.is_due.ensures,
      c.if-is_due.false,
    )
