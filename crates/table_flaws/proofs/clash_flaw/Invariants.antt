-- `table_flaws::clash_flaw`: `clash_flaw` of all is that of the files from i on, counted from i + 1; `flaw_step`
-- opens one file (same LID, a clash, or neither) and `flaw_end` leaves `later`.
use Prim.Native.Nat.{◌+◌, ◌-◌, ◌≤◌}
use mathlib.Core.Path.{◌≡◌}
use lib.ListN.{take, drop}
use Rattle.table_flaws.specs.Flaws.{clash_flaw}
use Rattle.table_flaws.proofs.clash_flaw.Given as goal

abbrev pub invariant-loop-i : goal.invariant-loop-i
invariant-loop-i l =
    (l.i ≤ l.count) × (clash_flaw l.d (take l.count l.files) 1 l.later ≡ clash_flaw l.d (drop l.i (take l.count l.files)) (l.i + 1) l.later)

abbrev pub decreases-loop-i : goal.decreases-loop-i
decreases-loop-i l =
    l.count - l.i
