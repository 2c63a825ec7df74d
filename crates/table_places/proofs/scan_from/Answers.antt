-- `table_places::scan_from`: the two returns are the two cases of `scan_from`: SFI 0, or not.
use borrow.Author.Tests.{eq-eqb, ne_eqb}
use Rattle.table_places.proofs.scan_from.Goals as goal

pub returns-then-sfi-eq0 : goal.returns-then-sfi-eq0
returns-then-sfi-eq0 c = rw (eq-eqb _ _ c.if-sfi-eq0.true)

pub returns : goal.returns
returns c = rw (ne_eqb _ _ c.if-sfi-eq0.false)
