-- `table_rules::counter_among`: `counter_among` all is that among the files from i on; `counter_step` opens one file,
-- `counter_end` is false.
use Prim.Native.Nat.{◌-◌, ◌≤◌}
use mathlib.Core.Path.{◌≡◌}
use lib.ListN.{take, drop}
use Rattle.model.specs.Table.{counter_among}
use Rattle.table_rules.proofs.counter_among.Given as goal

abbrev pub invariant-loop-i : goal.invariant-loop-i
invariant-loop-i l =
    (l.i ≤ l.count) × (counter_among l.d (take l.count l.files)
    ≡ counter_among l.d (drop l.i (take l.count l.files)))

abbrev pub decreases-loop-i : goal.decreases-loop-i
decreases-loop-i l =
    l.count - l.i
