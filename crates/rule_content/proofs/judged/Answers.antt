-- `rule_content::judged`: each return is a case of `word_of`;
-- row 3 has seven bytes by `Sized`, so each place that is read is there.
use native.Mathlib.Omega.{arith}
use Rattle.rule_content.proofs.judged.Goals as goal

pub bounds-v-0 : goal.bounds-v-0
bounds-v-0 c =
    let i = c in
    omega (arith, i.requires.startup i.if-row-ne3.false)

pub bounds-v-0-2 : goal.bounds-v-0-2
bounds-v-0-2 c =
    let i = c in
    omega (arith, i.requires.startup i.if-row-ne3.false)

pub bounds-v-5 : goal.bounds-v-5
bounds-v-5 c =
    let i = c in
    omega (arith, i.requires.startup i.if-row-ne3.false)

pub bounds-v-6 : goal.bounds-v-6
bounds-v-6 c =
    let i = c in
    omega (arith, i.requires.startup i.if-row-ne3.false)
