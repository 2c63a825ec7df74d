-- `memory::clear`: after i turns the first i bytes are zeros and the others as they were (`fill_more`).
use Prim.Native.Nat.{◌-◌, ◌≤◌}
use mathlib.Core.Path.{◌≡◌}
use mathlib.Core.List.{◌++◌}
use lib.ListN.{length, drop}
use Rattle.lists.specs.Bytes.{zeros}
use Rattle.memory.proofs.clear.Given as goal

abbrev pub invariant-loop-i : goal.invariant-loop-i
invariant-loop-i l =
    (l.i ≤ length l.initial.dst) × (length l.dst ≡ length l.initial.dst) × (l.dst ≡ zeros l.i ++ drop l.i l.initial.dst)

abbrev pub decreases-loop-i : goal.decreases-loop-i
decreases-loop-i l =
    length l.initial.dst - l.i
