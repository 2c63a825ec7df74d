-- `reason_why::at_end`: the two cases of `at_end`, told apart by `is_ready`, whatever the file area is.
use Rattle.reason_why.specs.Reasons.{at_end}
use Rattle.reason_why.proofs.at_end.Goals as goal

pub returns-then-is_ready : goal.returns-then-is_ready
unfolding at_end
returns-then-is_ready c = λ a. rw (← c.is_ready.ensures a, c.if-is_ready.true)

pub returns : goal.returns
unfolding at_end
returns c = λ a. rw (← c.is_ready.ensures a, c.if-is_ready.false, c.end_stop.ensures a)
