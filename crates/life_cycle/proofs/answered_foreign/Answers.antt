-- `life_cycle::answered_foreign`: selected or not, as `foreign` chooses the word; the life stays.
use Rattle.model.specs.Events.{foreign}
use Rattle.life_cycle.proofs.answered_foreign.Goals as goal

pub returns-then-life : goal.returns-then-life
unfolding foreign
returns-then-life c = λ a. rw c.if-life.true

pub returns : goal.returns
unfolding foreign
returns c = λ a. rw c.if-life.false
