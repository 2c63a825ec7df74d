-- `table_places::spot_of`: `spot_of` of all is `spot_from` of the files from i on, which begin at `base`; each file
-- has at most 65535 bytes, so `base` stays within i times that.
use Prim.Native.Nat.{◌*◌, ◌-◌, ◌≤◌}
use mathlib.Core.Path.{◌≡◌}
use lib.ListN.{take, drop}
use Rattle.model.specs.Table.{spot_from, spot_of}
use Rattle.table_places.proofs.spot_of.Given as goal

abbrev pub invariant-loop-i : goal.invariant-loop-i
invariant-loop-i l =
    (l.i ≤ l.count) × (l.base ≤ l.i * 65535) × (spot_of (take l.count l.files) l.sfi l.nn
    ≡ spot_from (drop l.i (take l.count l.files)) l.base l.sfi l.nn)

abbrev pub decreases-loop-i : goal.decreases-loop-i
decreases-loop-i l =
    l.count - l.i
