-- `rule_queries::challenge_given`: the three cases of `challenged`: not in 'CC', row 1 due, row 1 not due.
use Rattle.model.specs.Rules.{challenged}
use borrow.Author.Tests.{eq-eqb, ne_eqb}
use Rattle.rule_queries.proofs.challenge_given.Goals as goal

pub returns-then-p-ne204 : goal.returns-then-p-ne204
unfolding challenged
returns-then-p-ne204 c = λ l a. rw (c.failed_by.ensures, ne_eqb _ _ c.if-p-ne204.true)

pub returns-then-is_due : goal.returns-then-is_due
unfolding challenged
returns-then-is_due c =
    λ l a. rw (
      c.with_taken.ensures,
      eq-eqb _ _ c.if-p-ne204.false,
      ← c.is_due.ensures,
      c.if-is_due.true,
    )

pub returns : goal.returns
unfolding challenged
returns c =
    λ l a. rw (
      c.failed_by-2.ensures,
      eq-eqb _ _ c.if-p-ne204.false,
      ← c.is_due.ensures,
      c.if-is_due.false,
    )
