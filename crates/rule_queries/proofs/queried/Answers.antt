-- `rule_queries::queried`: the seven cases of `query`; all bytes are left only at place 0 (`first`, `not_first`).
-- Behind the third test the query is `alone`, and P1 and the tag decide.
use Rattle.rule_queries.proofs.Place.{not_first, first, alone}
use Rattle.model.specs.Rules.{query}
use borrow.Author.Tests.{eq-eqb, ne_eqb, lt-leb, le-leb}
use Rattle.rule_queries.proofs.queried.Goals as goal

pub returns-then-at-ne0 : goal.returns-then-at-ne0
unfolding query
returns-then-at-ne0 c = λ bytes l a e. rw (
  c.failed_by.ensures,
  not_first _ _ _ e c.requires
      c.if-at-ne0.true,
)

pub returns-then-h-ne0 : goal.returns-then-h-ne0
unfolding query
returns-then-h-ne0 c =
    λ bytes l a e. rw (
      c.failed_by-then-h-ne0.ensures,
      first _ _ _ e c.if-at-ne0.false,
      ne_eqb _ _ c.if-h-ne0.true,
    )

pub returns-then-h-n : goal.returns-then-h-n
unfolding query
returns-then-h-n c =
    λ bytes l a e. rw (
      c.failed_by-then-h-n.ensures,
      first _ _ _ e c.if-at-ne0.false,
      eq-eqb _ _ c.if-h-ne0.false,
      ne_eqb _ _ c.if-h-n.true,
    )

pub returns-then-p1-ne1 : goal.returns-then-p1-ne1
unfolding query
returns-then-p1-ne1 c =
    λ bytes l a e. let s = c in
    rw (
      c.failed_by-then-p1-ne1.ensures,
      alone _ _ _ _ _ e s.if-at-ne0.false
          s.if-h-ne0.false s.if-h-n.false,
      ne_eqb _ _ c.if-p1-ne1.true,
    )

pub returns-then-p1-ge128 : goal.returns-then-p1-ge128
unfolding query
returns-then-p1-ge128 c =
    λ bytes l a e. let s = c in
    rw (
      c.failed_by-then-p1-ge128.ensures,
      alone _ _ _ _ _ e s.if-at-ne0.false
          s.if-h-ne0.false s.if-h-n.false,
      eq-eqb _ _ c.if-p1-ne1.false,
      le-leb _ _ c.if-p1-ge128.true,
    )

pub returns-then-tag : goal.returns-then-tag
unfolding query
returns-then-tag c =
    λ bytes l a e. let s = c in
    rw (
      c.challenge_given.ensures l a,
      alone _ _ _ _ _ e s.if-at-ne0.false
          s.if-h-ne0.false s.if-h-n.false,
      eq-eqb _ _ c.if-p1-ne1.false,
      lt-leb _ _ c.if-p1-ge128.false,
      eq-eqb _ _ c.if-tag.true,
    )

pub returns : goal.returns
unfolding query
returns c =
    λ bytes l a e. let s = c in
    rw (
      alone _ _ _ _ _ e s.if-at-ne0.false s.if-h-ne0.false
          s.if-h-n.false,
      eq-eqb _ _ c.if-p1-ne1.false,
      lt-leb _ _ c.if-p1-ge128.false,
      ne_eqb _ _ c.if-tag.false,
    )
