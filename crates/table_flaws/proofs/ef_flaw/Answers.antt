-- `table_flaws::ef_flaw`: `data_ref_ok` decides what `field_flaw` gets as `later`: `clash`, or `DataRef`.
use Rattle.table_flaws.proofs.ef_flaw.Goals as goal

pub returns-then-data_ref_ok : goal.returns-then-data_ref_ok
returns-then-data_ref_ok c =
    let b = c in
    rw (c.field_flaw.ensures, c.clash_flaw-clash.ensures, c.total_flaw-total.ensures)
    (simp (← b.data_ref_ok.ensures, b.if-data_ref_ok.true))

pub returns : goal.returns
returns c =
    rw c.field_flaw-2.ensures (simp (← c.data_ref_ok.ensures, c.if-data_ref_ok.false))
