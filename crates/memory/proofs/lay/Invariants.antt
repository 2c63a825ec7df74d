-- `memory::lay`: after i turns the first i bytes are the source's, the others as they were (`over_more0`).
use Prim.Native.Nat.{◌-◌, ◌≤◌}
use mathlib.Core.Path.{◌≡◌}
use lib.ListN.{length, take}
use Rattle.lists.specs.Over.{overwrite}
use Rattle.memory.proofs.lay.Given as goal

abbrev pub invariant-loop-i : goal.invariant-loop-i
invariant-loop-i l =
    (l.i ≤ length l.src) × (l.dst ≡ overwrite l.initial.dst 0 (take l.i l.src))

abbrev pub decreases-loop-i : goal.decreases-loop-i
decreases-loop-i l =
    length l.src - l.i
