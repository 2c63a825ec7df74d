-- `order_cuts::command_end`: the command from `start` is being filled up to `at` (`Filling`); a portion goes into it
-- (`fill_more`), and it closes where the next does not fit, or where the order ends.
use Prim.Native.Nat.{◌-◌}
use lib.ListN.{length}
use Rattle.order_cuts.specs.Cuts.{Filling}
use Rattle.order_cuts.proofs.command_end.Given as goal

abbrev pub invariant-loop-at : goal.invariant-loop-at
invariant-loop-at l =
    Filling l.order l.start (record { at = l.at; inside = l.inside })

abbrev pub decreases-loop-at : goal.decreases-loop-at
decreases-loop-at l =
    length l.order - l.at
