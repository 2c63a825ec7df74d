-- `groupings::Lines::print_whole`: a grouping that is found ends further on and within the order (`found_ahead`), so
-- that less is left each turn.
use Rattle.std.proofs.Common.{◌-◌, ◌≤◌, length}
use Rattle.groupings.proofs.Lines.print_whole.Given as goal

abbrev pub invariant-loop-at : goal.invariant-loop-at
invariant-loop-at l = l.at ≤ length l.order

abbrev pub decreases-loop-at : goal.decreases-loop-at
decreases-loop-at l = length l.order - l.at
