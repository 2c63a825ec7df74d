-- `rule_content::kept_as`: the four returns are the cases of `kept_of`: rows 2, 3 and 4, and the secrets;
-- `Sized` gives each row its length, and a serial of eight bytes is its own padding (`padded_full`).
use native.Mathlib.Omega.{arith}
use borrow.Author.Tests.{eq-eqb, ne_eqb}
use Rattle.lists.specs.Bytes.{padded_full}
use Rattle.rule_content.proofs.kept_as.Goals as goal

pub padded8-l-requires : goal.padded8-l-requires
padded8-l-requires c = omega (arith, c.requires.serial c.if-row-eq2.true)

pub returns-then-row-eq2 : goal.returns-then-row-eq2
returns-then-row-eq2 c =
    let i = c in
    rw (
      c.padded8-l.ensures,
      padded_full 8 _ (i.requires.serial i.if-row-eq2.true),
      eq-eqb _ _ i.if-row-eq2.true,
    )

pub startup_of-l-requires : goal.startup_of-l-requires
startup_of-l-requires c = c.requires.startup c.if-row-eq3.true

pub returns-then-row-eq3 : goal.returns-then-row-eq3
returns-then-row-eq3 c =
    let i = c in
    rw (c.startup_of-l.ensures, ne_eqb _ _ i.if-row-eq2.false, eq-eqb _ _ i.if-row-eq3.true)

pub counter_in-requires : goal.counter_in-requires
counter_in-requires c = c.requires.counter c.if-row-eq4.true

pub returns-then-row-eq4 : goal.returns-then-row-eq4
returns-then-row-eq4 c =
    let i = c in
    rw (
      c.counter_in.ensures,
      ne_eqb _ _ i.if-row-eq2.false,
      ne_eqb _ _ i.if-row-eq3.false,
      eq-eqb _ _ i.if-row-eq4.true,
    )

pub returns : goal.returns
returns c =
    let i = c in
    rw (
      c.padded64-bytes.ensures,
      c.secret_place-at.ensures.0,
      ne_eqb _ _ i.if-row-eq2.false,
      ne_eqb _ _ i.if-row-eq3.false,
      ne_eqb _ _ i.if-row-eq4.false,
    )
