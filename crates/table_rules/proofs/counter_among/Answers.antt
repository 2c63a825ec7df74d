-- `table_rules::counter_among`: `counter_among` all is that among the files from i on; `counter_step` opens one file,
-- `counter_end` is false.
use Prim.Native.Nat.{◌≤◌}
use mathlib.Core.Path.{refl, sym, ◌∙◌}
use native.Mathlib.Omega.{arith}
use lib.ListN.{length}
use borrow.Author.Rules.{rules}
use Rattle.table_fields.proofs.Laws.{counter_step, counter_end}
use Rattle.table_rules.proofs.counter_among.Goals as goal

pub loop-i-init : goal.loop-i-init
loop-i-init c = (search rules, refl)

pub returns-then-counter_in : goal.returns-then-counter_in
returns-then-counter_in c =
    let l = c.loop-i in
    let a = c.args in
    let fits : a.count ≤ length a.files = search rules in
    sym (l.invariant.1 ∙ counter_step a.files a.count fits l.i a.d (omega arith) ∙ simp
    (← c.counter_in.ensures, c.if-counter_in.true))

pub loop-i-preserved : goal.loop-i-preserved
loop-i-preserved c =
    let l = c.loop-i in
    let a = c.args in
    let fits : a.count ≤ length a.files = search rules in
    let step = counter_step a.files a.count fits l.i a.d (omega arith) in
    (omega arith, l.invariant.1 ∙ step ∙ simp (← c.counter_in.ensures, c.if-counter_in.false))

pub returns : goal.returns
returns c =
    let a = c.args in
    let fits : a.count ≤ length a.files = search rules in
    sym (c.loop-i.invariant.1 ∙ counter_end a.files a.count fits c.loop-i.i a.d
    c.loop-i-test.false)
