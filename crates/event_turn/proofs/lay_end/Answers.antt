-- `event_turn::lay_end`: a query's answer is `lay_answer`'s; the two other ends lay nothing (`over_none`).
use mathlib.Core.Path.{refl, sym}
use Rattle.lists.specs.Over.{over_none}
use Rattle.event_turn.proofs.lay_end.Goals as goal

pub returns-in-Done : goal.returns-in-Done
returns-in-Done c = rw c.in-Done.is (refl, sym (over_none _ 0))

pub returns-in-Asked : goal.returns-in-Asked
returns-in-Asked c =
    rw c.in-Asked.is c.lay_answer.ensures

pub returns-in-Failed : goal.returns-in-Failed
returns-in-Failed c = rw c.in-Failed.is (refl, sym (over_none _ 0))
