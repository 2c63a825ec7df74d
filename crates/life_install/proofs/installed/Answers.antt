-- `life_install::installed`: the three returns are the three choices of `installing`; its form is what `named` asks,
-- and the 4096 bytes of the area become its zeros by `clear`.
use mathlib.Core.Path.{sym, ◌∙◌}
use Rattle.model.specs.Events.{installing}
use borrow.Author.Tests.{eq-eqb, ne_eqb}
use Rattle.life_install.proofs.installed.Goals as goal

pub named-requires : goal.named-requires
named-requires c =
    let then = c in
    sym then.is_install_form.ensures ∙ then.if-is_install_form.true

pub returns-then-life-eq0 : goal.returns-then-life-eq0
unfolding installing
returns-then-life-eq0 c =
    let cleared = c in
    let absent = cleared in
    let then = absent in
    let s = then in
    simp (
      ← then.is_install_form.ensures,
      then.if-is_install_form.true,
      eq-eqb _ _ absent.if-life-eq0.true,
      c.named.ensures,
      cleared.clear.ensures,
      s.requires,
    )

pub returns-then-is_install_form : goal.returns-then-is_install_form
unfolding installing
returns-then-is_install_form c =
    let then = c in
    simp (← then.is_install_form.ensures, then.if-is_install_form.true, ne_eqb _ _ c.if-life-eq0.false)

pub returns : goal.returns
unfolding installing
returns c = simp (← c.is_install_form.ensures, c.if-is_install_form.false)
