-- `print_numbers::width`: w digits are counted: `1 + width_of n` is w and the width of `rest`.
-- `rest` is below 10 to the power of 21 - w, so w stays within 20.
use Prim.Native.Nat.{◌-◌, ◌≤◌}
use mathlib.Core.Path.{refl, ◌∙◌}
use native.Mathlib.Omega.{arith}
use Rattle.print_numbers.proofs.Digits.{width_room, width_small, width_again, width_one}
use Rattle.print_numbers.proofs.width.Goals as goal

pub loop-rest-init : goal.loop-rest-init
loop-rest-init c = (omega arith, omega arith, omega arith, refl)

pub loop-rest-smaller : goal.loop-rest-smaller
loop-rest-smaller c =
    let l = c.loop-rest in
    omega (arith, width_room l.w l.rest (omega arith) l.invariant.2 (omega arith))

pub loop-rest-preserved : goal.loop-rest-preserved
loop-rest-preserved c =
    let l = c.loop-rest in
    let h : l.w ≤ 20 = omega arith in
    let m : 10 ≤ l.rest = omega arith in (
      omega arith,
      omega (arith, width_room l.w l.rest h l.invariant.2 m),
      width_small l.w l.rest h l.invariant.2 m,
      l.invariant.3 ∙ width_again l.w l.rest h l.invariant.2 m,
    )

pub returns : goal.returns
returns c =
    let l = c.loop-rest in
    (omega (arith, l.invariant.3, width_one (20 - l.w) l.rest (omega arith)), omega arith, omega arith)
