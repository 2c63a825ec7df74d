-- `event_replies::told_stuck`: the cases of `stuck`, for any card of the same name: no more of it is looked at.
use borrow.Author.Tests.{eq-eqb, ne_eqb}
use Rattle.model.specs.Events.{stuck, is_name, name_fci}
use Rattle.answers.specs.Answers.{said, gave}
use Rattle.event_replies.specs.Lives.{alike}
use Rattle.event_replies.proofs.told_stuck.Goals as goal

pub returns-then-is_named : goal.returns-then-is_named
unfolding stuck is_name name_fci
returns-then-is_named c =
    λ p g s l a. simp (
      eq-eqb _ 3 c.if-kind-eq-SELECT.true,
      ← c.is_named.ensures,
      c.if-is_named.true,
    )
    (gave _ _ (alike c.args.c g s l) a
    c.lay_name_fci.ensures.0 c.lay_name_fci.ensures.1)

pub returns-then-kind-eq-SELECT : goal.returns-then-kind-eq-SELECT
unfolding stuck is_name
returns-then-kind-eq-SELECT c =
    λ p g s l a. simp (eq-eqb _ 3 c.if-kind-eq-SELECT.true, ← c.is_named.ensures, c.if-is_named.false)
    (said _ _ a _)

pub returns-then-kind-eq5 : goal.returns-then-kind-eq5
unfolding stuck
returns-then-kind-eq5 c =
    λ p g s l a. simp (ne_eqb _ 3 c.if-kind-eq-SELECT.false, eq-eqb _ 5 c.if-kind-eq5.true) (said _ _ a _)

pub returns-then-kind-eq6 : goal.returns-then-kind-eq6
unfolding stuck
returns-then-kind-eq6 c =
    λ p g s l a. simp (
      ne_eqb _ 3 c.if-kind-eq-SELECT.false,
      ne_eqb _ 5 c.if-kind-eq5.false,
      eq-eqb _ 6 c.if-kind-eq6.true,
    ) (said _ _ a _)

pub returns : goal.returns
unfolding stuck
returns c =
    λ p g s l a. simp (
      ne_eqb _ 3 c.if-kind-eq-SELECT.false,
      ne_eqb _ 5 c.if-kind-eq5.false,
      ne_eqb _ 6 c.if-kind-eq6.false,
    ) (said _ _ a _)
