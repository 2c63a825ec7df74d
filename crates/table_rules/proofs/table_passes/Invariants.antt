-- `table_rules::table_passes`: after n turns the first n descriptors pass; one that is not admitted fails every
-- longer table too (`passes_never`).
use Prim.Native.Nat.{◌-◌, ◌≤◌}
use mathlib.Core.Path.{◌≡◌}
use mathlib.Core.Bool.{true}
use Rattle.model.specs.Table.{table_passes}
use Rattle.table_rules.proofs.table_passes.Given as goal

abbrev pub invariant-loop-n : goal.invariant-loop-n
invariant-loop-n l =
    (l.n ≤ l.count) × (table_passes l.files l.n ≡ true)

abbrev pub decreases-loop-n : goal.decreases-loop-n
decreases-loop-n l =
    l.count - l.n
