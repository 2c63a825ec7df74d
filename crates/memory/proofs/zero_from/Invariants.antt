-- `memory::zero_from`: all from `at` on is zero exactly where `zero` still holds and all from i on is zero;
-- a byte that is not zero makes both sides false.
use Prim.Native.Nat.{◌-◌}
use mathlib.Core.Path.{◌≡◌}
use lib.ListN.{length, drop}
use mathlib.Core.Bool.{◌&&◌}
use Rattle.lists.specs.Bytes.{all_zero}
use Rattle.memory.proofs.zero_from.Given as goal

abbrev pub invariant-loop-i : goal.invariant-loop-i
invariant-loop-i l =
    all_zero (drop l.at l.s) ≡ (l.zero && all_zero (drop l.i l.s))

abbrev pub decreases-loop-i : goal.decreases-loop-i
decreases-loop-i l =
    length l.s - l.i
