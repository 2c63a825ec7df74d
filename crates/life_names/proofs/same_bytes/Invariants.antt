-- `life_names::same_bytes`: after i turns the whole lists are the same exactly where what is left of both is.
-- Lists of different lengths never are (`same_length`).
use Prim.Native.Nat.{◌-◌, ◌≤◌}
use mathlib.Core.Path.{◌≡◌}
use lib.ListN.{length, drop}
use Rattle.lists.specs.Bytes.{same}
use Rattle.life_names.proofs.same_bytes.Given as goal

abbrev pub invariant-loop-i : goal.invariant-loop-i
invariant-loop-i l =
    (l.i ≤ length l.a) × (same l.a l.b ≡ same (drop l.i l.a) (drop l.i l.b))

abbrev pub decreases-loop-i : goal.decreases-loop-i
decreases-loop-i l =
    length l.a - l.i
