-- `row_sets::is_taken`: `taken` is defined as the code computes it.
use mathlib.Core.Path.{refl}
use Rattle.model.specs.Rows.{taken}
use Rattle.row_sets.proofs.is_taken.Goals as goal

pub returns : goal.returns
unfolding taken
returns c = refl
