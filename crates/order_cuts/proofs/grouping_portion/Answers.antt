-- `order_cuts::grouping_portion`: spannable or not are the two choices of `grouping_portion`.
use Rattle.order_cuts.specs.Portions.{grouping_portion}
use Rattle.order_cuts.proofs.grouping_portion.Goals as goal

pub returns-then-is_spannable : goal.returns-then-is_spannable
unfolding grouping_portion
returns-then-is_spannable c = simp (c.unit_portion.ensures, ← c.is_spannable.ensures, c.if-is_spannable.true)

pub returns : goal.returns
unfolding grouping_portion
returns c =
    let least = c.least-value in
    let if1 = c.if-is_spannable in
    let is-spannable = c.is_spannable in
    simp (c.unit_portion-2.ensures, least.ensures, ← is-spannable.ensures, if1.false)
