-- `card_fresh::is_chip`: the test of the length is one half of `chip_form`, and `zero_from` tells the other.
use borrow.Author.Tests.{eq-eqb, ne_eqb}
use Rattle.model.specs.Stored.{chip_form}
use Rattle.card_fresh.proofs.is_chip.Goals as goal

pub returns-then-chip-eq-CHIP_SIZE : goal.returns-then-chip-eq-CHIP_SIZE
unfolding chip_form
returns-then-chip-eq-CHIP_SIZE c = simp (c.zero_from.ensures, eq-eqb _ _ c.if-chip-eq-CHIP_SIZE.true)

pub returns : goal.returns
unfolding chip_form
returns c = simp (ne_eqb _ _ c.if-chip-eq-CHIP_SIZE.false)
