-- `life_select::selected_by`: the five returns are the cases of `select`; with no answer bytes by `said`, with an FCI
-- that a callee laid by `gave`.
use Rattle.answers.specs.Answers.{said, gave}
use Rattle.model.specs.Events.{select, is_name}
use borrow.Author.Tests.{eq-eqb, ne_eqb}
use Rattle.life_select.proofs.selected_by.Goals as goal

pub returns-then-life-ne7 : goal.returns-then-life-ne7
unfolding select
returns-then-life-ne7 c = λ a. rw (ne_eqb _ 0x07 c.if-life-ne7.true) (said _ _ a _)

pub returns-then-c-eq204 : goal.returns-then-c-eq204
unfolding select is_name
returns-then-c-eq204 c =
    let laid = c in
    let three = laid in
    let two = three in
    let one = two in
    λ a. simp (
      eq-eqb _ 0x07 one.if-life-ne7.false,
      ← two.is_named.ensures,
      two.if-is_named.true,
      eq-eqb _ 0xCC three.if-c-eq204.true,
    )
    (gave _ _ _ a laid.lay_name_fci-n.ensures.0 laid.lay_name_fci-n.ensures.1)

pub returns-then-is_invalidated : goal.returns-then-is_invalidated
unfolding select is_name
returns-then-is_invalidated c =
    let asked = c in
    let laid = asked in
    let three = laid in
    let two = three in
    let one = two in
    λ a. simp (
      eq-eqb _ 0x07 one.if-life-ne7.false,
      ← two.is_named.ensures,
      two.if-is_named.true,
      ne_eqb _ 0xCC three.if-c-eq204.false,
      ← asked.is_invalidated.ensures,
      c.if-is_invalidated.true,
    )
    (gave _ _ _ a laid.lay_full_fci-n.ensures.0 laid.lay_full_fci-n.ensures.1)

pub returns-then-is_named : goal.returns-then-is_named
unfolding select is_name
returns-then-is_named c =
    let asked = c in
    let laid = asked in
    let three = laid in
    let two = three in
    let one = two in
    λ a. simp (
      eq-eqb _ 0x07 one.if-life-ne7.false,
      ← two.is_named.ensures,
      two.if-is_named.true,
      ne_eqb _ 0xCC three.if-c-eq204.false,
      ← asked.is_invalidated.ensures,
      c.if-is_invalidated.false,
    )
    (gave _ _ _ a laid.lay_full_fci-n.ensures.0 laid.lay_full_fci-n.ensures.1)

pub returns : goal.returns
unfolding select is_name
returns c =
    let one = c in
    λ a. simp (eq-eqb _ 0x07 one.if-life-ne7.false, ← c.is_named.ensures, c.if-is_named.false) (said _ _ a _)
