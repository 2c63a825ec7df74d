-- `life_cycle::deselected`: by computation, once `deselect` is unfolded.
use mathlib.Core.Path.{refl}
use Rattle.model.specs.Events.{deselect}
use Rattle.life_cycle.proofs.deselected.Goals as goal

pub returns : goal.returns
unfolding deselect
returns c = λ a. refl
