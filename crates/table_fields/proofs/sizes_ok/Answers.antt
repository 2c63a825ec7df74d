-- `table_fields::sizes_ok`: for a binary file `size_of` says `sizes_ok`; else it is the two fields in order.
use Rattle.lists.specs.Choice.{cases}
use Rattle.table_fields.proofs.sizes_ok.Goals as goal

pub returns-then-d-eq-BINARY : goal.returns-then-d-eq-BINARY
returns-then-d-eq-BINARY c = rw c.size_of.ensures.0 (search cases)
