-- `rule_content::padded64`: bytes laid over 64 zeros are the bytes padded to 64 (`over_padded`).
use mathlib.Core.Path.{◌∙◌}
use Rattle.lists.specs.Over.{over_padded}
use borrow.Author.Rules.{rules}
use Rattle.rule_content.proofs.padded64.Goals as goal

pub returns : goal.returns
returns c = c.lay.ensures ∙ over_padded 64 _ (search rules)
