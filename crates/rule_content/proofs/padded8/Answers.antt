-- `rule_content::padded8`: bytes laid over eight zeros are the bytes padded to eight (`over_padded`).
use mathlib.Core.Path.{◌∙◌}
use Rattle.lists.specs.Over.{over_padded}
use borrow.Author.Rules.{rules}
use Rattle.rule_content.proofs.padded8.Goals as goal

pub returns : goal.returns
returns c = c.lay.ensures ∙ over_padded 8 _ (search rules)
