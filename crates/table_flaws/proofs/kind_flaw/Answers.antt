-- `table_flaws::kind_flaw`: `take count files` has length `count`, so `count == 0` is the first descriptor, the DF;
-- any other is an EF.
use Prim.Native.Nat.{◌≤◌}
use native.Mathlib.Omega.{arith}
use lib.ListN.{length}
use lib.Seq.{length-take-le}
use borrow.Author.Tests.{eq-eqb, ne_eqb}
use borrow.Author.Rules.{rules}
use Rattle.table_flaws.proofs.kind_flaw.Goals as goal

pub returns-then-df_ok : goal.returns-then-df_ok
returns-then-df_ok c =
    let a = c.args in
    let fits : a.count ≤ length a.files = search rules in
    rw (c.total_flaw.ensures, length-take-le _ _ fits, eq-eqb a.count 0 (omega arith))
    (simp (← c.df_ok.ensures, c.if-df_ok.true))

pub returns-then-count-eq0 : goal.returns-then-count-eq0
returns-then-count-eq0 c =
    let a = c.args in
    let fits : a.count ≤ length a.files = search rules in
    rw (length-take-le _ _ fits, eq-eqb a.count 0 (omega arith))
    (simp (← c.df_ok.ensures, c.if-df_ok.false))

pub returns : goal.returns
returns c =
    let a = c.args in
    let fits : a.count ≤ length a.files = search rules in
    rw (c.ef_flaw.ensures, length-take-le _ _ fits, ne_eqb a.count 0 c.if-count-eq0.false)
