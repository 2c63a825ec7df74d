-- `register_entries::enter_all`: after i records, card, file area, count and lines are those of `entered_of i`.
-- A record adds its turn: its walk comes to what `onward` says (`Pacing`), each file is found by `Scanning`.
use Prim.Native.Nat.{◌-◌, ◌≤◌, ◌<◌}
use mathlib.Core.Path.{◌≡◌}
use lib.ListN.{length, drop}
use Rattle.model.specs.Stored.{area_size}
use Rattle.table_places.specs.Scans.{Scanning}
use Rattle.walk_course.specs.Steps.{state_of}
use Rattle.walk_step.specs.Paces.{onward}
use Rattle.walk_command.proofs.Owner.{Pacing}
use Rattle.register_entries.specs.Entries.{Enters, entered_of}
use Rattle.register_entries.proofs.enter_all.Given as goal

abbrev pub invariant-loop-j : goal.invariant-loop-j
invariant-loop-j l =
    Scanning l.load.files l.load.count l.sfi l.nn l.spot l.base l.j

abbrev pub decreases-loop-j : goal.decreases-loop-j
decreases-loop-j l =
    l.load.count - l.j

abbrev pub invariant-loop-at : goal.invariant-loop-at
invariant-loop-at l =
    (1 ≤ l.n → Pacing l.end l.capacity l.p1 l.d (onward l.capacity (length l.d) l.p1 0 (drop 0 l.d) (state_of l.initial.load l.initial.area)) l.at l.load l.area)
    × (l.n ≡ 0 → (l.load ≡ l.initial.load) × (l.area ≡ l.initial.area)) × (length l.area ≡ area_size)

abbrev pub decreases-loop-at : goal.decreases-loop-at
decreases-loop-at l =
    l.n - l.at

abbrev pub invariant-loop-i : goal.invariant-loop-i
invariant-loop-i l =
    Enters (entered_of l.i l.initial.count (record { chip = l.chip; life = l.initial.life; loading = l.initial.load }) l.initial.area l.records)
    (record { chip = l.chip; life = l.life; loading = l.load }) l.area l.count l.initial.out l.out × (length l.out ≡ length l.initial.out)
    × (length l.answer ≡ 64) × (l.count < 100000) × (l.i ≤ l.k)

abbrev pub decreases-loop-i : goal.decreases-loop-i
decreases-loop-i l =
    l.k - l.i
