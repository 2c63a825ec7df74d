-- `job_text::Reading::read`: the place, the count, the bytes and the lines are those that the characters before the
-- rest leave (`Before`). A turn reads two characters (`laid_two`) or one (`laid_turn`).
use Rattle.job_text.proofs.Runs.{before_all, laid_turn, laid_two}
use Rattle.job_text.proofs.Reading.read.Goals as goal

pub loop-x-init : goal.loop-x-init
loop-x-init c = before_all c.requires.1

pub loop-x-preserved-in-Some-pair_between : goal.loop-x-preserved-in-Some-pair_between
loop-x-preserved-in-Some-pair_between c =
    let h = rw c.in-Some-pair_between.is at c.pair_between.ensures in
    let e = c.lay-count.ensures in
    laid_two h c.past_pair-place.ensures e.0 e.1 e.2
    c.requires.0 c.in-Some.ensures.cases.0 c.in-Some-split_first.ensures.cases.0 c.loop-x.invariant

pub loop-x-preserved : goal.loop-x-preserved
loop-x-preserved c =
    let e = c.lay-count-in-Some.ensures in
    laid_turn c.byte_of.ensures c.step-place.ensures e.0 e.1 e.2
    c.requires.0 c.in-Some.ensures.cases.0 c.loop-x.invariant
