-- `table_flaws::clash_flaw`: `clash_flaw` of all is that of the files from i on, counted from i + 1; `flaw_step`
-- opens one file (same LID, a clash, or neither) and `flaw_end` leaves `later`.
use Prim.Native.Nat.{◌+◌, ◌≤◌}
use mathlib.Core.Path.{refl, sym, ◌∙◌}
use native.Mathlib.Omega.{arith}
use lib.ListN.{length}
use Rattle.lists.specs.Choice.{cases}
use Rattle.table_flaws.proofs.Laws.{flaw_step, flaw_end}
use borrow.Author.Rules.{rules}
use Rattle.table_flaws.proofs.clash_flaw.Goals as goal

pub loop-i-init : goal.loop-i-init
loop-i-init c = (search rules, refl)

pub returns-then-d-e : goal.returns-then-d-e
returns-then-d-e c =
    let l = c.loop-i in
    let a = c.args in
    let fits : a.count ≤ length a.files = search rules in
    let step = flaw_step a.files a.count fits l.i a.d (l.i + 1) a.later (omega arith) in
    sym (l.invariant.1 ∙ step ∙ search cases)

pub returns-then-clash_of : goal.returns-then-clash_of
returns-then-clash_of c =
    let l = c.loop-i in
    let a = c.args in
    let fits : a.count ≤ length a.files = search rules in
    let step = flaw_step a.files a.count fits l.i a.d (l.i + 1) a.later (omega arith) in
    sym (l.invariant.1 ∙ step ∙ simp (← c.clash_of.ensures, c.if-clash_of.true) (search cases))

pub loop-i-preserved : goal.loop-i-preserved
loop-i-preserved c =
    let l = c.loop-i in
    let a = c.args in
    let fits : a.count ≤ length a.files = search rules in
    let step = flaw_step a.files a.count fits l.i a.d (l.i + 1) a.later (omega arith) in
    (omega arith, l.invariant.1 ∙ step ∙ simp (← c.clash_of.ensures, c.if-clash_of.false) (search cases))

pub returns : goal.returns
returns c =
    let l = c.loop-i in
    let a = c.args in
    let fits : a.count ≤ length a.files = search rules in
    sym (l.invariant.1 ∙ flaw_end a.files a.count fits l.i a.d (l.i + 1) a.later c.loop-i-test.false)
