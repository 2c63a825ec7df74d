-- `life_cycle::locked_by`: absent, locked, neither: the three returns are the three choices of `lock`.
use Rattle.lists.specs.Choice.{cases}
use Rattle.model.specs.Events.{lock}
use Rattle.life_cycle.proofs.locked_by.Goals as goal

pub returns-then-life-eq0 : goal.returns-then-life-eq0
unfolding lock
returns-then-life-eq0 c = λ a. search cases

pub returns-then-life-ge-LOCKED : goal.returns-then-life-ge-LOCKED
unfolding lock
returns-then-life-ge-LOCKED c = λ a. search cases

pub returns : goal.returns
unfolding lock
returns c = λ a. search cases
