-- `calls::place_sum`: the whole sum is what is summed up and the sum of what is behind; i turns sum up to i
-- times 3182400.
use Rattle.std.proofs.Common.{◌≡◌, ◌+◌, ◌*◌, ◌≤◌, drop}
use Rattle.calls.specs.Sums.{sum_from, place_sum}
use Rattle.calls.proofs.lines.place_sum.Given as goal

abbrev pub invariant-loop-i : goal.invariant-loop-i
invariant-loop-i l =
    (l.sum ≤ l.i * 3182400) × (place_sum l.bytes ≡ l.sum + sum_from (l.i + 1) (drop l.i l.bytes))
