-- `print_numbers::put_hex`: after i turns the first i bytes stand in hexadecimal from `at` on (`hex_more`).
use Prim.Native.Nat.{◌-◌, ◌≤◌}
use mathlib.Core.Path.{◌≡◌}
use lib.ListN.{length, take}
use Rattle.print_numbers.specs.Trace.{hex_of}
use Rattle.lists.specs.Over.{overwrite}
use Rattle.print_numbers.proofs.put_hex.Given as goal

abbrev pub invariant-loop-i : goal.invariant-loop-i
invariant-loop-i l =
    (l.i ≤ length l.bytes) × (l.out ≡ overwrite l.initial.out l.at (hex_of (take l.i l.bytes)))

abbrev pub decreases-loop-i : goal.decreases-loop-i
decreases-loop-i l =
    length l.bytes - l.i
