-- `order_cuts::command_count`: the count so far and the commands from `end` on are the whole cut (`Counted`); each
-- command moves on, so the count cannot overflow and the loop ends.
use Prim.Native.Nat.{◌-◌}
use lib.ListN.{length}
use Rattle.order_cuts.proofs.Commands.{Counted}
use Rattle.order_cuts.proofs.command_count.Given as goal

abbrev pub invariant-loop-end : goal.invariant-loop-end
invariant-loop-end l =
    Counted l.order l.end l.count

abbrev pub decreases-loop-end : goal.decreases-loop-end
decreases-loop-end l =
    length l.order - l.end.at
