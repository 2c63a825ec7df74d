-- `memory::zero_from`: all from `at` on is zero exactly where `zero` still holds and all from i on is zero;
-- a byte that is not zero makes both sides false.
use mathlib.Core.Path.{refl, sym, ◌∙◌}
use Rattle.lists.specs.Bytes.{zero_step, zero_stop, zero_end}
use Rattle.lists.specs.Truth.{and_false, and_true}
use borrow.Author.Rules.{rules}
use Rattle.memory.proofs.zero_from.Goals as goal
use Rattle.memory.proofs.zero_from.Goals.{then-s-i-ne0, else-s-i-ne0}

pub loop-i-init : goal.loop-i-init
loop-i-init c = refl

pub loop-i-preserved : goal.loop-i-preserved
loop-i-preserved c =
    let s = c.args.s.now in
    let l = c.loop-i in
    elim c.if-s-i-ne0.branch [
      | then-s-i-ne0 w ↦
          l.invariant ∙ rw (w.zero-is, zero_stop s l.i (search rules) w.if-s-i-ne0.true) (and_false l.zero)
      | else-s-i-ne0 w ↦ l.invariant ∙ rw (w.zero-is, zero_step s l.i (search rules) w.if-s-i-ne0.false)
    ]

pub returns : goal.returns
returns c = sym (c.loop-i.invariant ∙ rw (zero_end _ _ c.loop-i-test.false) (and_true c.loop-i.zero))
