-- The table is computed, character by character.
use mathlib.Core.Path.{refl}
use Rattle.job_text.specs.Characters.{sort_of}
use Rattle.job_text.specs.Pairs.{values_from}
use Rattle.job_text.proofs.digit_values.Goals as goal

pub returns : goal.returns
unfolding sort_of values_from
returns c = refl
