-- `life_names::is_selectable_form`: `selectable_form_lem` gives the form by its places; each return is the conjunction
-- with the tests made so far.
use mathlib.Core.Path.{sym, ◌∙◌}
use Rattle.life_names.proofs.Install.{selectable_form_lem}
use borrow.Author.Tests.{eq-eqb, ne_eqb}
use Rattle.life_names.proofs.is_selectable_form.Goals as goal

pub returns-then-p-ne0 : goal.returns-then-p-ne0
returns-then-p-ne0 c =
    let p = c in
    sym (selectable_form_lem _ p.places_in-p.result p.places_in-p.ensures.0 ∙ simp (ne_eqb _ _ c.if-p-ne0.true))

pub returns-then-p-ne0-2 : goal.returns-then-p-ne0-2
returns-then-p-ne0-2 c =
    let one = c in
    let p = one in
    sym (selectable_form_lem _ p.places_in-p.result p.places_in-p.ensures.0
    ∙ simp (eq-eqb _ _ one.if-p-ne0.false, ne_eqb _ _ c.if-p-ne0-2.true))

pub returns-then-name_length : goal.returns-then-name_length
returns-then-name_length c =
    let three = c in
    let two = three in
    let one = two in
    let p = one in
    c.tail_is.ensures
    ∙ sym (selectable_form_lem _ p.places_in-p.result p.places_in-p.ensures.0
    ∙ simp (
      eq-eqb _ _ one.if-p-ne0.false,
      eq-eqb _ _ two.if-p-ne0-2.false,
      ← three.name_length.ensures,
      c.if-name_length.true,
    ))

pub returns : goal.returns
returns c =
    let three = c in
    let two = three in
    let one = two in
    let p = one in
    sym (selectable_form_lem _ p.places_in-p.result p.places_in-p.ensures.0
    ∙ simp (eq-eqb _ _ one.if-p-ne0.false, eq-eqb _ _ two.if-p-ne0-2.false, ← three.name_length.ensures, c.if-name_length.false))
