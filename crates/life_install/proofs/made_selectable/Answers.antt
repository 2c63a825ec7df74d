-- `life_install::made_selectable`: the five returns are the cases of `making_selectable`. The form says that the name
-- lies within the data (`selectable_ends`), and the bytes asked of are the name (`named_is`).
use mathlib.Core.Path.{◌≡◌, sym, ◌∙◌}
use Rattle.model.specs.Events.{names_in, making_selectable, is_name}
use Rattle.life_names.proofs.Install.{selectable_ends, named_is}
use borrow.Author.Tests.{eq-eqb, ne_eqb}
use Rattle.life_install.proofs.made_selectable.Goals as goal
use Rattle.life_install.proofs.made_selectable.Goals.{After-is_named}

-- what the call of `is_named` says, of the definition
name-asked : (n : After-is_named)
    → let s = n in
    is_name s.args.c (names_in s.args.d.now).name ≡ n.is_named.result
unfolding is_name
name-asked n =
    let p = n.places_in-p in
    sym (n.is_named.ensures ∙ rw (named_is _ p.result p.ensures.0))

pub returns-then-life-eq0 : goal.returns-then-life-eq0
unfolding making_selectable
returns-then-life-eq0 c =
    let then = c in
    λ a. simp (← then.is_selectable_form.ensures, then.if-is_selectable_form.true, eq-eqb _ _ c.if-life-eq0.true)

pub slice_bounds-is_named-end : goal.slice_bounds-is_named-end
slice_bounds-is_named-end c =
    let then = c in
    let s = then in
    selectable_ends s.args.d.now c.places_in-p.result c.places_in-p.ensures.0
    (sym then.is_selectable_form.ensures ∙ then.if-is_selectable_form.true)

pub returns-then-life-eq3 : goal.returns-then-life-eq3
unfolding making_selectable
returns-then-life-eq3 c =
    let three = c in
    let two = three in
    let then = two in
    λ a. simp (
      ← then.is_selectable_form.ensures,
      then.if-is_selectable_form.true,
      ne_eqb _ _ two.if-life-eq0.false,
      name-asked (goal.at.returns-then-life-eq3 c).After-is_named,
      three.if-is_named.true,
      eq-eqb _ _ c.if-life-eq3.true,
    )

pub returns-then-is_named : goal.returns-then-is_named
unfolding making_selectable
returns-then-is_named c =
    let three = c in
    let two = three in
    let then = two in
    λ a. simp (
      ← then.is_selectable_form.ensures,
      then.if-is_selectable_form.true,
      ne_eqb _ _ two.if-life-eq0.false,
      name-asked (goal.at.returns-then-is_named c).After-is_named,
      three.if-is_named.true,
      ne_eqb _ _ c.if-life-eq3.false,
    )

pub returns-then-is_selectable_form : goal.returns-then-is_selectable_form
unfolding making_selectable
returns-then-is_selectable_form c =
    let two = c in
    let then = two in
    λ a. simp (
      ← then.is_selectable_form.ensures,
      then.if-is_selectable_form.true,
      ne_eqb _ _ two.if-life-eq0.false,
      name-asked (goal.at.returns-then-is_selectable_form c).After-is_named,
      c.if-is_named.false,
    )

pub returns : goal.returns
unfolding making_selectable
returns c = λ a. simp (← c.is_selectable_form.ensures, c.if-is_selectable_form.false)
