-- `table_rules::rules_ok`: `take count files` has length `count` (`length-take-le`); so a full table, a false
-- `accesses_ok`, `df_ok` for the first and `ef_ok` for any other are the cases of `rules_ok`.
use Prim.Native.Nat.{◌≤◌}
use mathlib.Core.Path.{sym, ◌∙◌}
use lib.ListN.{length}
use native.Mathlib.Omega.{arith}
use borrow.Author.Rules.{rules}
use Rattle.model.specs.Table.{rules_ok}
use lib.Seq.{length-take-le}
use borrow.Author.Tests.{lt-ltb, le-ltb, eq-eqb, ne_eqb}
use Rattle.table_rules.proofs.rules_ok.Goals as goal

pub returns-then-count-ge-TABLE_LIMIT : goal.returns-then-count-ge-TABLE_LIMIT
unfolding rules_ok
returns-then-count-ge-TABLE_LIMIT c =
    let a = c.args in
    let fits : a.count ≤ length a.files = search rules in
    rw (length-take-le _ _ fits, le-ltb a.count 31 (omega arith))

pub returns-then-count-eq0 : goal.returns-then-count-eq0
unfolding rules_ok
returns-then-count-eq0 c =
    let b = c in
    let a = b.args in
    let fits : a.count ≤ length a.files = search rules in
    rw (
      length-take-le _ _ fits,
      lt-ltb a.count 31 (omega arith),
      sym b.accesses_ok.ensures ∙ c.if-accesses_ok.true,
      eq-eqb a.count 0 (omega arith),
    )
    c.df_ok.ensures

pub returns-then-accesses_ok : goal.returns-then-accesses_ok
unfolding rules_ok
returns-then-accesses_ok c =
    let b = c in
    let a = b.args in
    let fits : a.count ≤ length a.files = search rules in
    rw (
      length-take-le _ _ fits,
      lt-ltb a.count 31 (omega arith),
      sym b.accesses_ok.ensures ∙ c.if-accesses_ok.true,
      ne_eqb a.count 0 c.if-count-eq0.false,
    )
    c.ef_ok.ensures

pub returns : goal.returns
unfolding rules_ok
returns c =
    let b = c in
    let a = b.args in
    let fits : a.count ≤ length a.files = search rules in
    rw (length-take-le _ _ fits, lt-ltb a.count 31 (omega arith), sym b.accesses_ok.ensures ∙ c.if-accesses_ok.false)
