-- `walk_command::walked`: the walk from `at` is the walk from i on of the state that stands then (`Going`); a turn is
-- judged once (`Turn`) and has a case a course. The inner loop seeks the wanted record (`Scanning`).
use Prim.Native.Nat.{◌-◌}
use lib.ListN.{length, drop}
use Rattle.table_places.specs.Scans.{Scanning}
use Rattle.walk_course.specs.Steps.{state_of}
use Rattle.walk_step.specs.Paces.{onward}
use Rattle.walk_command.proofs.Owner.{Going}
use Rattle.walk_command.proofs.walked.Given as goal

abbrev pub invariant-loop-j : goal.invariant-loop-j
invariant-loop-j l =
    Scanning l.load.files l.load.count l.sfi l.nn l.spot l.base l.j

abbrev pub decreases-loop-j : goal.decreases-loop-j
decreases-loop-j l =
    l.load.count - l.j

abbrev pub invariant-loop-i : goal.invariant-loop-i
invariant-loop-i l =
    Going l.capacity l.p1 l.d (onward l.capacity (length l.d) l.p1 l.at (drop l.at l.d) (state_of l.initial.load l.initial.area)) l.i l.place l.load l.area

abbrev pub decreases-loop-i : goal.decreases-loop-i
decreases-loop-i l =
    length l.d - l.i
