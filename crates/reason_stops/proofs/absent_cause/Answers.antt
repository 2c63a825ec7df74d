-- `reason_stops::absent_cause`: the two returns are the two cases of `absent_cause`, told apart by `is_listed`.
use Rattle.reason_stops.proofs.absent_cause.Goals as goal

pub returns-then-is_listed : goal.returns-then-is_listed
returns-then-is_listed c = simp (← c.is_listed.ensures, c.if-is_listed.true)

pub returns : goal.returns
returns c = simp (← c.is_listed.ensures, c.if-is_listed.false)
