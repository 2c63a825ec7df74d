-- `table_descriptor::ef_fields_ok`: the returns are the conjuncts of `ef_fields` in order; `ef_type` and `sizes_ok`
-- say the two that are calls, and the others are compared here.
use Rattle.lists.specs.Choice.{cases}
use Rattle.table_descriptor.proofs.ef_fields_ok.Goals as goal

pub returns-then-d-ne0 : goal.returns-then-d-ne0
returns-then-d-ne0 c = simp (← c.ef_type.ensures, c.if-ef_type.true) (search cases)

pub returns-then-ef_type : goal.returns-then-ef_type
returns-then-ef_type c =
    rw c.sizes_ok.ensures
    (simp (← c.ef_type.ensures, c.if-ef_type.true)
    (search cases))

pub returns : goal.returns
returns c = simp (← c.ef_type.ensures, c.if-ef_type.false) (search cases)
