-- `life_install::installed_by`: '08', '04' or '0C', and any other P1 are the three choices of `install`; the test
-- by `||` comes in two ways, and both make its Bool true.
use mathlib.Core.Path.{◌≡◌}
use mathlib.Core.Bool.{true, ◌||◌}
use lib.Dec.{eqb}
use borrow.Author.Tests.{eq-eqb, ne_eqb}
use Rattle.model.specs.Events.{install}
use Rattle.life_install.proofs.installed_by.Goals as goal
use Rattle.life_install.proofs.installed_by.Goals.{then-p1-eq4-via-then-p1-eq4, then-p1-eq4-via-else-p1-eq4+then-p1-eq12}

pub returns-then-p1-eq8 : goal.returns-then-p1-eq8
unfolding install
returns-then-p1-eq8 c = rw (eq-eqb _ 0x08 c.if-p1-eq8.true) (c.made_selectable.ensures _)

pub returns-then-p1-eq4 : goal.returns-then-p1-eq4
unfolding install
returns-then-p1-eq4 c =
    let two = c in
    let p1 = two.args.p1 in
    let e : (eqb p1 0x04 || eqb p1 0x0C) ≡ true =
    elim two.then-p1-eq4.branch [
      | then-p1-eq4-via-then-p1-eq4 w ↦ rw (eq-eqb p1 0x04 w.if-p1-eq4.true)
      | then-p1-eq4-via-else-p1-eq4+then-p1-eq12 w ↦ simp (ne_eqb p1 0x04 w.if-p1-eq4.false, w.if-p1-eq12.true)
    ] in
    rw (ne_eqb _ 0x08 c.if-p1-eq8.false, e) c.installed.ensures

pub returns : goal.returns
unfolding install
returns c =
    let two = c in
    simp (ne_eqb _ 0x08 c.if-p1-eq8.false, ne_eqb _ 0x04 c.if-p1-eq4.false, ne_eqb _ 0x0C c.if-p1-eq12.false)
