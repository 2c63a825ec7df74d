-- `life_names::is_install_form`: `install_form_lem` gives the form by its places; each return is the conjunction with
-- the tests made so far.
use mathlib.Core.Path.{sym, ◌∙◌}
use Rattle.life_names.proofs.Install.{install_form_lem}
use Rattle.life_names.proofs.is_install_form.Goals as goal

pub returns-then-name_length-3 : goal.returns-then-name_length-3
returns-then-name_length-3 c =
    let if3 = c.if-name_length-3 in
    let three = c in
    let two = three in
    let one = two in
    let p = one in
    c.tail_is.ensures
    ∙ sym (install_form_lem _ p.places_in-p.result p.places_in-p.ensures.0
    ∙ simp (
      ← one.name_length.ensures,
      two.if-name_length.true,
      ← two.name_length-then-name_length.ensures,
      three.if-name_length-2.true,
      ← three.name_length-then-name_length-2.ensures,
      if3.true,
    ))

pub returns-else-name_length-3 : goal.returns-else-name_length-3
returns-else-name_length-3 c =
    let three = c in
    let two = three in
    let one = two in
    let p = one in
    sym (install_form_lem _ p.places_in-p.result p.places_in-p.ensures.0
    ∙ simp (
      ← one.name_length.ensures,
      two.if-name_length.true,
      ← two.name_length-then-name_length.ensures,
      three.if-name_length-2.true,
      ← three.name_length-then-name_length-2.ensures,
      c.if-name_length-3.false,
    ))

pub returns-else-name_length-2 : goal.returns-else-name_length-2
returns-else-name_length-2 c =
    let two = c in
    let one = two in
    let p = one in
    sym (install_form_lem _ p.places_in-p.result p.places_in-p.ensures.0
    ∙ simp (← one.name_length.ensures, two.if-name_length.true, ← two.name_length-then-name_length.ensures, c.if-name_length-2.false))

pub returns-else-name_length : goal.returns-else-name_length
returns-else-name_length c =
    let one = c in
    let p = one in
    sym (install_form_lem _ p.places_in-p.result p.places_in-p.ensures.0
    ∙ simp (← one.name_length.ensures, c.if-name_length.false))
