-- `life_cycle::unlocked_by`: absent, not locked, locked: the three returns are the three choices of `unlock`.
use Rattle.lists.specs.Choice.{cases}
use Rattle.model.specs.Events.{unlock}
use Rattle.life_cycle.proofs.unlocked_by.Goals as goal

pub returns-then-life-eq0 : goal.returns-then-life-eq0
unfolding unlock
returns-then-life-eq0 c = λ a. search cases

pub returns-then-life-lt-LOCKED : goal.returns-then-life-lt-LOCKED
unfolding unlock
returns-then-life-lt-LOCKED c = λ a. search cases

pub returns : goal.returns
unfolding unlock
returns c = λ a. search cases
