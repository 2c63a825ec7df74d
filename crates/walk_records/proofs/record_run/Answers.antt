-- `walk_records::record_run`: a record missing nothing is taken (`run_ends`), any other stays open (`run_goes_on`).
use mathlib.Core.Path.{sym, ◌∙◌}
use Rattle.walk_records.proofs.Laying.{run_ends, run_goes_on}
use Rattle.walk_records.proofs.record_run.Goals as goal

pub returns-then-missing-eq0 : goal.returns-then-missing-eq0
returns-then-missing-eq0 c = rw c.with_row.ensures (sym (run_ends _ _ _ _ c.if-missing-eq0.true))

pub returns : goal.returns
returns c = c.with_open.ensures ∙ sym (run_goes_on _ _ _ _ c.if-missing-eq0.false)
