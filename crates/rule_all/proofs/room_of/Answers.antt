-- `rule_all::room_of`: the two cases of `room_spot`: the records' row has the spot, any other the most of its row.
use borrow.Author.Tests.{eq-eqb, ne_eqb}
use Rattle.rule_all.proofs.room_of.Goals as goal

pub returns-then-row-eq-RECORD_ROW : goal.returns-then-row-eq-RECORD_ROW
returns-then-row-eq-RECORD_ROW c = rw (eq-eqb _ _ c.if-row-eq-RECORD_ROW.true)

pub returns : goal.returns
returns c = rw (ne_eqb _ _ c.if-row-eq-RECORD_ROW.false, c.row_at-x.ensures)
