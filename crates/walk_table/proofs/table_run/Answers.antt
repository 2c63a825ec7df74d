-- `walk_table::table_run`: a table that misses nothing is taken (`run_ends`), any other stays open (`run_goes_on`).
use mathlib.Core.Path.{sym, ◌∙◌}
use Rattle.walk_table.proofs.Bytes.{run_ends, run_goes_on}
use Rattle.walk_table.proofs.table_run.Goals as goal

pub returns-then-missing-eq0 : goal.returns-then-missing-eq0
returns-then-missing-eq0 c =
    c.with_taken.ensures ∙ rw c.with_open-shut.ensures (sym (run_ends _ _ c.if-missing-eq0.true))

pub returns : goal.returns
returns c = c.holding.ensures ∙ sym (run_goes_on _ _ c.if-missing-eq0.false)
