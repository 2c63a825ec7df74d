-- `row_table::is_record`: by `record_test` the tag's two bounds are the test that its row is 11;
-- one case for each side of the first bound.
use native.Mathlib.Omega.{arith}
use borrow.Author.Tests.{le-leb, lt-leb}
use Rattle.row_table.proofs.Records.{record_test}
use Rattle.row_table.proofs.is_record.Goals as goal

pub returns-then-tag-ge-FIRST_RECORD : goal.returns-then-tag-ge-FIRST_RECORD
returns-then-tag-ge-FIRST_RECORD c =
    let tag = c.args.tag in
    rw (← record_test tag, le-leb 0x0100 tag (omega arith))

pub returns-else-tag-ge-FIRST_RECORD : goal.returns-else-tag-ge-FIRST_RECORD
returns-else-tag-ge-FIRST_RECORD c =
    let tag = c.args.tag in
    rw (← record_test tag, lt-leb 0x0100 tag (omega arith))
