-- `card_fresh::fresh`: the two cases of `fresh_of`, by `is_chip`; a record of its form has 40 bytes (`form_size`).
use Rattle.card_fresh.proofs.Chips.{form_size}
use Rattle.model.specs.Session.{fresh_of}
use Rattle.card_fresh.proofs.fresh.Goals as goal

pub chip_of-known-requires : goal.chip_of-known-requires
chip_of-known-requires c = form_size c.args.chip.now
    (rw (← c.is_chip.ensures) c.if-is_chip.true)

pub returns-then-is_chip : goal.returns-then-is_chip
unfolding fresh_of
returns-then-is_chip c =
    simp (
      ← c.is_chip.ensures,
      c.if-is_chip.true,
      c.fresh_card.ensures,
      c.chip_of-known.ensures,
    )

pub returns : goal.returns
unfolding fresh_of
returns c =
    let if1 = c.if-is_chip in
    let is-chip = c.is_chip in
    simp (← is-chip.ensures, if1.false, c.fresh_card-2.ensures, c.chip_of-unknown.ensures)
