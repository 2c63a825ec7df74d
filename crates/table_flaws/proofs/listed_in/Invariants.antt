-- `table_flaws::listed_in`: `listed` of all is that of the files from i on; `listed_step` opens one file,
-- `listed_end` is false.
use Prim.Native.Nat.{◌-◌, ◌≤◌}
use mathlib.Core.Path.{◌≡◌}
use lib.ListN.{take, drop}
use Rattle.table_flaws.specs.Flaws.{listed}
use Rattle.table_flaws.proofs.listed_in.Given as goal

abbrev pub invariant-loop-i : goal.invariant-loop-i
invariant-loop-i l =
    (l.i ≤ l.count) × (listed l.sfi (take l.count l.files) ≡ listed l.sfi (drop l.i (take l.count l.files)))

abbrev pub decreases-loop-i : goal.decreases-loop-i
decreases-loop-i l =
    l.count - l.i
