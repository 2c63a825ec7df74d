-- `print_numbers::width`: w digits are counted: `1 + width_of n` is w and the width of `rest`.
-- `rest` is below 10 to the power of 21 - w, so w stays within 20.
use Prim.Native.Nat.{◌+◌, ◌-◌, ◌≤◌, ◌<◌, ◌^◌}
use mathlib.Core.Path.{◌≡◌}
use Rattle.print_numbers.specs.Trace.{width_of, width_with}
use Rattle.print_numbers.proofs.width.Given as goal

abbrev pub invariant-loop-rest : goal.invariant-loop-rest
invariant-loop-rest l =
    (1 ≤ l.w) × (l.w ≤ 20) × (l.rest < 10 ^ (21 - l.w))
    × (1 + width_of l.n ≡ l.w + width_with (20 - l.w) l.rest)

abbrev pub decreases-loop-rest : goal.decreases-loop-rest
decreases-loop-rest l =
    20 - l.w
