-- `table_rules::admit`: the three returns are the cases of `admit_of`: a broken rule, a total over 4096, or it passes.
use Prim.Native.Nat.{◌+◌}
use native.Mathlib.Omega.{arith}
use Rattle.model.specs.Table.{admit_of}
use borrow.Author.Tests.{le-leb, lt-leb}
use Rattle.table_rules.proofs.admit.Goals as goal

pub returns-then-before-size-le-AREA_SIZE : goal.returns-then-before-size-le-AREA_SIZE
unfolding admit_of
returns-then-before-size-le-AREA_SIZE c =
    let b = c in
    simp (
      ← b.rules_ok.ensures,
      b.if-rules_ok.true,
      ← c.total_of-before.ensures.0,
      ← c.size_of-size.ensures.0,
      le-leb (c.total_of-before.result + c.size_of-size.result) 4096 (omega arith),
    )

pub returns-then-rules_ok : goal.returns-then-rules_ok
unfolding admit_of
returns-then-rules_ok c =
    let b = c in
    simp (
      ← b.rules_ok.ensures,
      b.if-rules_ok.true,
      ← c.total_of-before.ensures.0,
      ← c.size_of-size.ensures.0,
      lt-leb (c.total_of-before.result + c.size_of-size.result) 4096 (omega arith),
    )

pub returns : goal.returns
unfolding admit_of
returns c = simp (← c.rules_ok.ensures, c.if-rules_ok.false)
