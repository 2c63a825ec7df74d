-- `row_due::is_rising`: the two cases of `rising`, told apart by whether the records' row is taken.
use Rattle.model.specs.Rows.{rising}
use Rattle.row_due.proofs.is_rising.Goals as goal

pub returns-then-is_taken : goal.returns-then-is_taken
unfolding rising
returns-then-is_taken c = simp (← c.is_taken.ensures, c.if-is_taken.true)

pub returns : goal.returns
unfolding rising
returns c = simp (← c.is_taken.ensures, c.if-is_taken.false)
