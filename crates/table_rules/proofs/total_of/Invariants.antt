-- `table_rules::total_of`: the total of all is `sum` plus that of the files from i on; each file has at most 65535
-- bytes, so `sum` stays within i times that.
use Prim.Native.Nat.{◌+◌, ◌*◌, ◌-◌, ◌≤◌}
use mathlib.Core.Path.{◌≡◌}
use lib.ListN.{take, drop}
use Rattle.model.specs.Table.{total}
use Rattle.table_rules.proofs.total_of.Given as goal

abbrev pub invariant-loop-i : goal.invariant-loop-i
invariant-loop-i l =
    (l.i ≤ l.count) × (l.sum ≤ l.i * 65535)
    × (total (take l.count l.files) ≡ l.sum + total (drop l.i (take l.count l.files)))

abbrev pub decreases-loop-i : goal.decreases-loop-i
decreases-loop-i l =
    l.count - l.i
