-- `memory::padded16`: bytes laid over the front of 16 zeros are those bytes padded (`over_padded`).
use mathlib.Core.Path.{◌∙◌}
use Rattle.lists.specs.Over.{over_padded}
use borrow.Author.Rules.{rules}
use Rattle.memory.proofs.padded16.Goals as goal

pub returns : goal.returns
returns c = c.lay.ensures ∙ over_padded 16 _ (search rules)
