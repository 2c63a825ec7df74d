-- `reason_stops::missing_row`: the search from row 1 comes to what it comes to from row n, with 12 - n turns left;
-- it ends at the first row found (`row_found`), or at 12 (`row_none`).
use Prim.Native.Nat.{◌-◌, ◌≤◌}
use mathlib.Core.Path.{◌≡◌}
use Rattle.reason_stops.specs.Stops.{missing_row}
use Rattle.reason_stops.proofs.missing_row.Given as goal

abbrev pub invariant-loop-n : goal.invariant-loop-n
invariant-loop-n l =
    (missing_row 11 l.rows 1 ≡ missing_row (12 - l.n) l.rows l.n) × (1 ≤ l.n) × (l.n ≤ 12)

abbrev pub decreases-loop-n : goal.decreases-loop-n
decreases-loop-n l =
    12 - l.n
