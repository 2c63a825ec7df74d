-- `table_rules::table_passes`: after n turns the first n descriptors pass; one that is not admitted fails every
-- longer table too (`passes_never`).
use Prim.Native.Nat.{◌<◌}
use mathlib.Core.Path.{◌≡◌, refl, sym}
use native.Mathlib.Omega.{arith}
use lib.ListN.{length}
use borrow.Author.Rules.{rules}
use Rattle.table_fields.proofs.Laws.{passes_more, passes_never}
use Rattle.model.specs.Table.{table_passes}
use Rattle.table_rules.proofs.table_passes.Goals as goal

pub loop-n-init : goal.loop-n-init
unfolding table_passes
loop-n-init c = (omega arith, refl)

pub loop-n-preserved : goal.loop-n-preserved
loop-n-preserved c =
    let l = c.loop-n in
    let a = c.args in
    let fits : l.n < length a.files = search rules in
    (omega arith, passes_more a.files l.n fits l.invariant.1 c.admits.ensures c.if-admits.true)

pub returns-else-admits : goal.returns-else-admits
returns-else-admits c =
    let l = c.loop-n in
    let a = c.args in
    let fits : l.n < length a.files = search rules in
    sym (passes_never a.files l.n fits l.invariant.1 a.count (omega arith) c.admits.ensures
    c.if-admits.false)

pub returns : goal.returns
returns c =
    let l = c.loop-n in
    let e : c.args.count ≡ l.n = omega arith in
    rw e (sym l.invariant.1)
