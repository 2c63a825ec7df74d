-- `print_numbers::put_digits`: the last i digits of `rest`, laid over `out`, would give the final result
-- (`digits_more`); at the end none is left (`digits_none`).
use Prim.Native.Nat.{◌≤◌}
use mathlib.Core.Path.{◌≡◌}
use lib.ListN.{length}
use Rattle.print_numbers.specs.Trace.{last_digits}
use Rattle.lists.specs.Over.{overwrite}
use Rattle.print_numbers.proofs.put_digits.Given as goal

abbrev pub invariant-loop-i : goal.invariant-loop-i
invariant-loop-i l =
    (l.i ≤ l.w) × (length l.out ≡ length l.initial.out) × (overwrite l.out l.at (last_digits l.i l.rest) ≡ overwrite l.initial.out l.at (last_digits l.w l.n))

abbrev pub decreases-loop-i : goal.decreases-loop-i
decreases-loop-i l =
    l.i
