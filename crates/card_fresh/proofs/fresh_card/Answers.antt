-- `card_fresh::fresh_card`: the fields are those of `fresh_card`, and its loading part is `fresh_loading`'s.
use Rattle.model.specs.Stored.{fresh_card}
use Rattle.card_fresh.proofs.fresh_card.Goals as goal

pub returns : goal.returns
unfolding fresh_card
returns c = rw c.fresh_loading-loading.ensures
