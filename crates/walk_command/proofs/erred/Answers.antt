-- `walk_command::erred`: the two returns are the two cases of `erred_as`: in '5A', or not.
use borrow.Author.Tests.{eq-eqb, ne_eqb}
use Rattle.walk_command.proofs.erred.Goals as goal

pub returns-then-p-eq90 : goal.returns-then-p-eq90
returns-then-p-eq90 c = rw (eq-eqb _ _ c.if-p-eq90.true, c.with_open.ensures)

pub returns : goal.returns
returns c = rw (ne_eqb _ _ c.if-p-eq90.false)
