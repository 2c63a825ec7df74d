-- `life_names::places_in`: the three lengths are the bytes read one after the other (`placed_by`); each is below 256,
-- so the tail begins at 768 at most.
use mathlib.Core.Path.{◌∙◌}
use native.Mathlib.Omega.{arith}
use Rattle.life_names.proofs.Install.{placed_by}
use Rattle.life_names.proofs.places_in.Goals as goal

pub returns : goal.returns
returns c =
    let one = c in
    let two = c in (
      placed_by _ (one.wide-first.ensures.0 ∙ one.byte_at.ensures)
          (two.wide-second.ensures.0 ∙ two.byte_at-2.ensures)
          (c.wide-third.ensures.0 ∙ c.byte_at-3.ensures),
      omega arith,
      omega arith,
    )
