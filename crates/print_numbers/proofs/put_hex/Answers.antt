-- `print_numbers::put_hex`: after i turns the first i bytes stand in hexadecimal from `at` on (`hex_more`).
use Prim.Native.Nat.{◌<◌}
use mathlib.Core.Path.{◌≡◌, sym, ◌∙◌}
use native.Mathlib.Omega.{arith}
use lib.ListN.{length, take}
use borrow.Author.Rules.{rules}
use lib.Seq.{take_all}
use Rattle.print_numbers.proofs.Digits.{hex_more}
use Rattle.print_numbers.specs.Trace.{hex_of}
use Rattle.lists.specs.Over.{over_none, length_over}
use Rattle.print_numbers.proofs.put_hex.Goals as goal

pub loop-i-init : goal.loop-i-init
unfolding hex_of
loop-i-init c = (search rules, sym (over_none _ _))

pub put_hex2-requires : goal.put_hex2-requires
put_hex2-requires c =
    let l = c.loop-i in
    rw (l.invariant.1, length_over) (omega arith)

pub loop-i-preserved : goal.loop-i-preserved
loop-i-preserved c =
    let l = c.loop-i in
    let a = c.args in
    let h : l.i < length a.bytes.now = omega arith in (
      omega arith,
      c.put_hex2.ensures ∙ rw l.invariant.1
          (hex_more a.out.now a.bytes.now a.at l.i h),
    )

pub shape_of-out : goal.shape_of-out
shape_of-out c = rw (c.loop-i.invariant.1, length_over)

pub returns : goal.returns
returns c =
    let l = c.loop-i in
    let a = c.args in
    let e : take l.i a.bytes.now ≡ a.bytes.now = take_all l.i a.bytes.now (omega arith) in
    (omega arith, rw (l.invariant.1, length_over), l.invariant.1 ∙ rw e)
