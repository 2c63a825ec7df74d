-- `row_table::missing_before`: none of the first k rows is missing: the answer is that of the rows behind them;
-- `missing_step` takes one row more, `missing_end` has none left.
use mathlib.Core.Path.{sym, ◌∙◌}
use native.Mathlib.Omega.{arith}
use Rattle.row_table.proofs.Missing.{missing_step, missing_end}
use Rattle.row_table.proofs.missing_before.Goals as goal

pub returns-then-lacks : goal.returns-then-lacks
returns-then-lacks c =
    let l = c.loop-k in
    let a = c.args in
    sym (l.invariant.1 ∙ missing_step a.rows a.n (omega arith) l.k (omega arith) ∙ simp
    (← c.lacks.ensures, c.if-lacks.true))

pub loop-k-preserved : goal.loop-k-preserved
loop-k-preserved c =
    let l = c.loop-k in
    let a = c.args in (
      omega arith,
      l.invariant.1 ∙ missing_step a.rows a.n (omega arith) l.k (omega arith) ∙ simp
          (← c.lacks.ensures, c.if-lacks.false),
    )

pub returns : goal.returns
returns c =
    let a = c.args in
    sym (c.loop-k.invariant.1 ∙ missing_end a.rows a.n (omega arith) c.loop-k.k
    c.loop-k-test.false)
