-- `table_rules::clashes_with`: `clashes` with all is that with the files from i on; `clashes_step` opens one file,
-- `clashes_end` is false.
use Prim.Native.Nat.{◌≤◌}
use mathlib.Core.Path.{refl, sym, ◌∙◌}
use native.Mathlib.Omega.{arith}
use lib.ListN.{length}
use borrow.Author.Rules.{rules}
use Rattle.table_fields.proofs.Laws.{clashes_step, clashes_end}
use Rattle.table_rules.proofs.clashes_with.Goals as goal

pub loop-i-init : goal.loop-i-init
loop-i-init c = (search rules, refl)

pub returns-then-clash_of : goal.returns-then-clash_of
returns-then-clash_of c =
    let l = c.loop-i in
    let a = c.args in
    let fits : a.count ≤ length a.files = search rules in
    sym (l.invariant.1 ∙ clashes_step a.files a.count fits l.i a.d (omega arith) ∙ simp
    (← c.clash_of.ensures, c.if-clash_of.true))

pub loop-i-preserved : goal.loop-i-preserved
loop-i-preserved c =
    let l = c.loop-i in
    let a = c.args in
    let fits : a.count ≤ length a.files = search rules in
    let step = clashes_step a.files a.count fits l.i a.d (omega arith) in
    (omega arith, l.invariant.1 ∙ step ∙ simp (← c.clash_of.ensures, c.if-clash_of.false))

pub returns : goal.returns
returns c =
    let a = c.args in
    let fits : a.count ≤ length a.files = search rules in
    sym (c.loop-i.invariant.1 ∙ clashes_end a.files a.count fits c.loop-i.i a.d
    c.loop-i-test.false)
