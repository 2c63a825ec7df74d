-- `card_fresh::chip_of`: each part lies within the 40 bytes and fills its array: no zeros are added (`padded_part`).
use native.Mathlib.Omega.{arith}
use lib.ListN.{length-take}
use Rattle.card_fresh.proofs.Chips.{padded_part}
use Rattle.model.specs.Stored.{chip_of}
use Rattle.card_fresh.proofs.chip_of.Goals as goal

pub slice_bounds-padded4-end : goal.slice_bounds-padded4-end
slice_bounds-padded4-end c = rw length-take (omega arith)

pub padded4-reference-requires : goal.padded4-reference-requires
padded4-reference-requires c = rw length-take (omega arith)

pub returns : goal.returns
unfolding chip_of
returns c =
    let b = c.args.chip.now in
    simp (
      c.padded4-reference.ensures,
      c.padded16-challenge.ensures,
      c.padded16-traceability.ensures,
      padded_part b 0 4 (omega arith),
      padded_part b 4 16 (omega arith),
      padded_part b 20 16 (omega arith),
    )
