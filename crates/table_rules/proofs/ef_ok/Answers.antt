-- `table_rules::ef_ok`: the four returns are `ef_ok` by its parts: fields, DataRef, and a clash turned round.
use Rattle.table_rules.proofs.ef_ok.Goals as goal

pub returns-then-clashes_with : goal.returns-then-clashes_with
returns-then-clashes_with c =
    let b = c in
    simp (
      ← b.ef_fields_ok.ensures,
      b.if-ef_fields_ok.true,
      ← b.data_ref_ok.ensures,
      b.if-data_ref_ok.true,
      ← c.clashes_with.ensures,
      c.if-clashes_with.true,
    )

pub returns-then-data_ref_ok : goal.returns-then-data_ref_ok
returns-then-data_ref_ok c =
    let b = c in
    simp (
      ← b.ef_fields_ok.ensures,
      b.if-ef_fields_ok.true,
      ← b.data_ref_ok.ensures,
      b.if-data_ref_ok.true,
      ← c.clashes_with.ensures,
      c.if-clashes_with.false,
    )

pub returns-else-data_ref_ok : goal.returns-else-data_ref_ok
returns-else-data_ref_ok c =
    simp (
      ← c.ef_fields_ok.ensures,
      c.if-ef_fields_ok.true,
      ← c.data_ref_ok.ensures,
      c.if-data_ref_ok.false,
    )

pub returns-else-ef_fields_ok : goal.returns-else-ef_fields_ok
returns-else-ef_fields_ok c = simp (← c.ef_fields_ok.ensures, c.if-ef_fields_ok.false)
