-- `table_flaws::field_flaw`: the six returns are the cases of `field_flaw`; `ef_type` and `sizes_ok` are calls.
use Rattle.lists.specs.Choice.{cases}
use Rattle.table_flaws.proofs.field_flaw.Goals as goal

pub returns-then-d-ne0 : goal.returns-then-d-ne0
returns-then-d-ne0 c = simp (← c.ef_type.ensures, c.if-ef_type.true) (search cases)

pub returns-then-sizes_ok : goal.returns-then-sizes_ok
returns-then-sizes_ok c =
    let b = c in
    simp (← b.ef_type.ensures, b.if-ef_type.true, ← c.sizes_ok.ensures, c.if-sizes_ok.true) (search cases)

pub returns-then-ef_type : goal.returns-then-ef_type
returns-then-ef_type c =
    let b = c in
    simp (← b.ef_type.ensures, b.if-ef_type.true, ← c.sizes_ok.ensures, c.if-sizes_ok.false) (search cases)

pub returns : goal.returns
returns c = simp (← c.ef_type.ensures, c.if-ef_type.false) (search cases)
