-- `card_fresh::padded4`: bytes laid over four zeros are the bytes, padded (`over_padded`).
use mathlib.Core.Path.{◌∙◌}
use Rattle.lists.specs.Over.{over_padded}
use borrow.Author.Rules.{rules}
use Rattle.card_fresh.proofs.padded4.Goals as goal

pub returns : goal.returns
returns c = c.lay.ensures ∙ over_padded 4 _ (search rules)
