-- `print_numbers::put_digits`: the last i digits of `rest`, laid over `out`, would give the final result
-- (`digits_more`); at the end none is left (`digits_none`).
use mathlib.Core.Path.{sym, ◌∙◌}
use native.Mathlib.Omega.{arith}
use lib.ListN.{length-set}
use Rattle.print_numbers.proofs.Digits.{digits_more, digits_none}
use Rattle.print_numbers.proofs.put_digits.Goals as goal

pub loop-i-preserved : goal.loop-i-preserved
loop-i-preserved c =
    let l = c.loop-i in
    let a = c.args in (
      omega arith,
      simp length-set l.invariant.1,
      digits_more l.out a.at l.i l.rest
          (omega arith) ∙ l.invariant.2,
    )

pub shape_of-out : goal.shape_of-out
shape_of-out c = c.loop-i.invariant.1

pub returns : goal.returns
returns c =
    let l = c.loop-i in
    sym (digits_none l.out c.args.at l.i l.rest (omega arith)) ∙ l.invariant.2
