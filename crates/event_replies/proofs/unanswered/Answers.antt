-- `event_replies::unanswered`: the cases of `otherwise` by kind, less 2 and 3, which the contract rules out.
use borrow.Author.Tests.{eq-eqb, ne_eqb}
use Rattle.event_replies.proofs.Named.{good_name}
use Rattle.model.specs.Events.{otherwise}
use Rattle.event_replies.proofs.unanswered.Goals as goal

pub installed_by-requires : goal.installed_by-requires
installed_by-requires c = let p = c.requires.0 in (p.area, good_name _ _ p)

pub returns-then-kind-eq1 : goal.returns-then-kind-eq1
unfolding otherwise
returns-then-kind-eq1 c =
    rw (eq-eqb _ _ c.if-kind-eq1.true) c.installed_by.ensures

pub returns-then-kind-eq4 : goal.returns-then-kind-eq4
unfolding otherwise
returns-then-kind-eq4 c =
    let two = c in
    let one = two in
    let pre = one.requires in
    rw (ne_eqb _ _ one.if-kind-eq1.false, pre.1, pre.2, eq-eqb _ _ two.if-kind-eq4.true) (c.answered_foreign.ensures _)

pub returns-then-kind-eq7 : goal.returns-then-kind-eq7
unfolding otherwise
returns-then-kind-eq7 c =
    let three = c in
    let two = three in
    let one = two in
    let pre = one.requires in
    rw (ne_eqb _ _ one.if-kind-eq1.false, pre.1, pre.2, ne_eqb _ _ two.if-kind-eq4.false, eq-eqb _ _ three.if-kind-eq7.true)
    (c.locked_by.ensures _)

pub returns-then-kind-eq8 : goal.returns-then-kind-eq8
unfolding otherwise
returns-then-kind-eq8 c =
    let four = c in
    let three = four in
    let two = three in
    let one = two in
    let pre = one.requires in
    rw (
      ne_eqb _ _ one.if-kind-eq1.false,
      pre.1,
      pre.2,
      ne_eqb _ _ two.if-kind-eq4.false,
      ne_eqb _ _ three.if-kind-eq7.false,
      eq-eqb _ _ four.if-kind-eq8.true,
    )
    (c.unlocked_by.ensures _)

pub returns : goal.returns
unfolding otherwise
returns c =
    let four = c in
    let three = four in
    let two = three in
    let one = two in
    let pre = one.requires in
    rw (
      ne_eqb _ _ one.if-kind-eq1.false,
      pre.1,
      pre.2,
      ne_eqb _ _ two.if-kind-eq4.false,
      ne_eqb _ _ three.if-kind-eq7.false,
      ne_eqb _ _ four.if-kind-eq8.false,
    )
    (c.deselected.ensures _)
