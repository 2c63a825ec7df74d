-- `io_playing::place_sum`: after i turns the sum is at most i times 1044480, the most that one byte weighs.
use Rattle.std.proofs.Common.{◌*◌, ◌≤◌}
use Rattle.io_playing.proofs.place_sum.Given as goal

abbrev pub invariant-loop-i : goal.invariant-loop-i
invariant-loop-i l = l.sum ≤ l.i * 1044480
