-- `row_table::missing_before`: none of the first k rows is missing: the answer is that of the rows behind them;
-- `missing_step` takes one row more, `missing_end` has none left.
use Prim.Native.Nat.{◌+◌, ◌-◌, ◌≤◌}
use mathlib.Core.Path.{◌≡◌}
use lib.ListN.{take, drop}
use Rattle.model.specs.Rows.{row_table, missing_from}
use Rattle.row_table.proofs.missing_before.Given as goal

abbrev pub invariant-loop-k : goal.invariant-loop-k
invariant-loop-k l =
    (l.k ≤ l.n) × (missing_from l.rows 1 (take l.n row_table)
    ≡ missing_from l.rows (l.k + 1) (drop l.k (take l.n row_table)))

abbrev pub decreases-loop-k : goal.decreases-loop-k
decreases-loop-k l =
    l.n - l.k
