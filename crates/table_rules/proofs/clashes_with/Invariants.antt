-- `table_rules::clashes_with`: `clashes` with all is that with the files from i on; `clashes_step` opens one file,
-- `clashes_end` is false.
use Prim.Native.Nat.{◌-◌, ◌≤◌}
use mathlib.Core.Path.{◌≡◌}
use lib.ListN.{take, drop}
use Rattle.model.specs.Table.{clashes}
use Rattle.table_rules.proofs.clashes_with.Given as goal

abbrev pub invariant-loop-i : goal.invariant-loop-i
invariant-loop-i l =
    (l.i ≤ l.count) × (clashes l.d (take l.count l.files) ≡ clashes l.d (drop l.i (take l.count l.files)))

abbrev pub decreases-loop-i : goal.decreases-loop-i
decreases-loop-i l =
    l.count - l.i
