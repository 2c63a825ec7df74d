-- `walk_table::table_fed`: feeding all the bytes is feeding those from `at` on to the table that stands then (`Run`).
-- A turn (`Turned`) ends within a descriptor, or its descriptor is refused or enters; one that passes has room.
use Prim.Native.Nat.{◌-◌}
use Rattle.walk_table.proofs.Laws.{Run}
use Rattle.walk_table.proofs.table_fed.Given as goal

abbrev pub invariant-loop-at : goal.invariant-loop-at
invariant-loop-at l =
    Run l.d l.initial.at l.end l.initial.l l.at l.missing l.l

abbrev pub decreases-loop-at : goal.decreases-loop-at
decreases-loop-at l =
    l.end - l.at
