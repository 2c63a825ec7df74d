-- `job_text::Reading::read`: the place, the count, the bytes and the lines are those that the characters before the
-- rest leave (`Before`). A turn reads two characters (`laid_two`) or one (`laid_turn`).
use Rattle.std.proofs.Common.{length}
use Rattle.job_text.proofs.Runs.{Before}
use Rattle.job_text.proofs.Reading.read.Given as goal

abbrev pub invariant-loop-x : goal.invariant-loop-x
invariant-loop-x l =
    Before l.initial.place l.initial.count l.initial.out l.initial.lines l.chars l.rest l.place l.count l.out l.lines

abbrev pub decreases-loop-x : goal.decreases-loop-x
decreases-loop-x l = length l.rest
