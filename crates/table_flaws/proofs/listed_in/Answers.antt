-- `table_flaws::listed_in`: `listed` of all is that of the files from i on; `listed_step` opens one file,
-- `listed_end` is false.
use Prim.Native.Nat.{◌≤◌}
use mathlib.Core.Path.{refl, sym, ◌∙◌}
use native.Mathlib.Omega.{arith}
use Rattle.lists.specs.Choice.{cases}
use lib.ListN.{length}
use Rattle.table_flaws.proofs.Laws.{listed_step, listed_end}
use borrow.Author.Rules.{rules}
use Rattle.table_flaws.proofs.listed_in.Goals as goal

pub loop-i-init : goal.loop-i-init
loop-i-init c = (search rules, refl)

pub returns-then-e-sfi : goal.returns-then-e-sfi
returns-then-e-sfi c =
    let l = c.loop-i in
    let a = c.args in
    let fits : a.count ≤ length a.files = search rules in
    let step = listed_step a.files a.count fits l.i a.sfi (omega arith) in
    sym (l.invariant.1 ∙ step ∙ search cases)

pub loop-i-preserved : goal.loop-i-preserved
loop-i-preserved c =
    let l = c.loop-i in
    let a = c.args in
    let fits : a.count ≤ length a.files = search rules in
    let step = listed_step a.files a.count fits l.i a.sfi (omega arith) in
    (omega arith, l.invariant.1 ∙ step ∙ search cases)

pub returns : goal.returns
returns c =
    let l = c.loop-i in
    let a = c.args in
    let fits : a.count ≤ length a.files = search rules in
    sym (l.invariant.1 ∙ listed_end a.files a.count fits l.i a.sfi c.loop-i-test.false)
