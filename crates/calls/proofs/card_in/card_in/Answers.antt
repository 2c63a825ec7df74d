-- `calls::card_in`: the three parts of `card_from`.
use Rattle.calls.specs.Cards.{card_from}
use Rattle.calls.proofs.card_in.card_in.Goals as goal

pub returns : goal.returns
unfolding card_from
returns c = simp (c.chip_in.ensures, c.life_in.ensures, c.loading_in.ensures)
