-- `table_rules::total_of`: the total of all is `sum` plus that of the files from i on; each file has at most 65535
-- bytes, so `sum` stays within i times that.
use Prim.Native.Nat.{◌≤◌}
use native.Mathlib.Omega.{arith}
use lib.ListN.{length}
use borrow.Author.Rules.{rules}
use Rattle.table_fields.proofs.Laws.{total_more, total_end}
use Rattle.table_rules.proofs.total_of.Goals as goal

pub loop-i-preserved : goal.loop-i-preserved
loop-i-preserved c =
    let b = c in
    let l = b.loop-i in
    let a = b.args in
    let fits : a.count ≤ length a.files = search rules in
    let more = total_more a.files a.count fits l.i l.sum c.size_of-sum.result b.loop-i-test.true in
    (omega arith, omega arith, more c.size_of-sum.ensures.0 l.invariant.2)

pub returns : goal.returns
returns c =
    let a = c.args in
    let fits : a.count ≤ length a.files = search rules in
    omega (arith, total_end a.files a.count fits c.loop-i.i c.loop-i-test.false)
