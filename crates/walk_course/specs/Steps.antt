-- How the walk's code and the walk's definition are held together: what the owner of the loading part makes of a step.
use Rattle.std.specs.Prelude.{ℕ, ◌+◌, ◌-◌, ◌≤◌, ◌<◌, min, ◌≡◌, true, cond, List, [], ◌∷◌, eqb, length, drop}
use Rattle.lists.specs.Bytes.{part, byte_at, padded, zeros}
use Rattle.lists.specs.Over.{overwrite}
use Rattle.model.specs.declared.Open.{Open}
use Rattle.model.specs.declared.Open.TheVariants.{Shut, Table, Record}
use Rattle.model.specs.declared.Running.{Running}
use Rattle.model.specs.declared.Life.{Life}
use Rattle.model.specs.declared.Loading.{Loading}
use Rattle.model.specs.Stored.{area_size}
use Rattle.model.specs.Loads.{State, file_list, with_running, with_serial, with_startup, with_counter, with_secret, changed}
use Rattle.model.specs.Rules.{Result, went, asked, failed, counter_of, fed, tag_spot, room_of}
use Rattle.model.specs.Rows.{row_of, due}
use Rattle.model.specs.declared.Spot.{Spot}
use Rattle.model.specs.declared.Spot.TheVariants.{Nowhere, At}
use Rattle.model.specs.declared.Verdict.TheVariants.{Passes}
use Rattle.theorem_sound.proofs.Inside.{Steady}
use Rattle.theorem_sound.proofs.Feeding.{Fed}
use Rattle.walk_course.specs.declared.Course.{Course}
use Rattle.walk_course.specs.declared.Course.TheVariants.{Keeps, Lays, Feeds, Asked, Failed}
use Rattle.walk_course.specs.declared.Step.{Step}
use Rattle.walk_course.specs.Lengths.{Sized}

abbrev pub state_of : Loading → List ℕ → State
state_of l a = record { load = l; area = a }

-- a card that takes a command is at '07' and selected
abbrev pub active_life : Life
active_life = record { gp = 0x07; selected = true; name = zeros 16; namelen = 5 }

-- a loading part that is as far
abbrev pub on : Running → Loading → List ℕ → State
on p l a = state_of (with_running p l) a

-- a passed grouping is kept: serial, startup, counter, or the secret's bytes with their length
abbrev pub startup_of : ℕ → List ℕ → List ℕ
startup_of capacity v = min (byte_at v 0) capacity ∷ drop 1 v

abbrev pub kept_of : ℕ → ℕ → List ℕ → Loading → Loading
kept_of capacity row v l =
    cond (eqb row 2) (with_serial v l)
    (cond (eqb row 3) (with_startup (startup_of capacity v) l)
    (cond (eqb row 4) (with_counter (counter_of v) l)
    (with_secret (row - 6) (record { bytes = padded 64 v; len = length v }) l)))

-- what a step comes to, once the owner has made its change: in the paper's values
abbrev pub carried : ℕ → Course → List ℕ → State → Result (List ℕ)
carried capacity (Keeps row start end) d s = went (drop end d)
    (changed (kept_of capacity row (part d start (end - start))) s)
carried capacity (Lays to start end) d s = went (drop end d)
    (state_of s.load (overwrite s.area to (part d start (end - start))))
carried capacity (Feeds at) d s = fed (drop at d) s
carried capacity (Asked t) d s = asked t s
carried capacity (Failed w) d s = failed w s

-- what a query comes to: it never goes on
abbrev pub ended_as : Course → State → Result ℕ
ended_as (Keeps row start end) s = went 0 s
ended_as (Lays to start end) s = went 0 s
ended_as (Feeds at) s = went 0 s
ended_as (Asked t) s = asked t s
ended_as (Failed w) s = failed w s

-- how much an open '3100' misses
abbrev pub missing_in : Open → ℕ
missing_in Shut = 0
missing_in (Table held missing) = missing
missing_in (Record tag written missing) = 0

-- the owner finds all it needs: the places lie in the data, behind the step's own, and in the file area; a value has
-- its row's length; bytes of '3100' go to a table that is open and misses some
abbrev pub Ahead : List ℕ → ℕ → Course → Loading → Type 0
Ahead d at (Keeps row start end) l = (at < end) × (start ≤ end) × (end ≤ length d) × Sized row (end - start)
Ahead d at (Lays to start end) l = (at < end) × (start ≤ end) × (end ≤ length d) × (to + (end - start) ≤ area_size)
Ahead d at (Feeds j) l = (at ≤ j) × (j ≤ length d) × (1 ≤ missing_in l.running.pending)
    × Fed 0 (missing_in l.running.pending) (state_of l [])
Ahead d at (Asked t) l = Unit {0}
Ahead d at (Failed w) l = Unit {0}

-- what a step says of one grouping or of an open value's bytes, whichever loading part is as far
pub record Judges (capacity : ℕ) (r : Step) (d : List ℕ) (at : ℕ) (l : Loading) (a : List ℕ)
    (x : Result (List ℕ)) : Type 0 where
  pub comes : carried capacity r.course d (on r.running l a) ≡ x
  pub ahead : Ahead d at r.course (with_running r.running l)

-- a record's place that was found for a step: it lies within the file area
abbrev pub Within : Spot → Type 0
Within Nowhere = Unit {0}
Within (At base size) = base + size ≤ area_size

-- whichever loading part is as far: it is sound, nothing is open, and the place is that of the record whose tag comes
pub record Stands (p : Running) (spot : Spot) (tag : ℕ) (l : Loading) (a : List ℕ) : Type 0 where
  pub steady : Steady area_size (on p l a)
  pub shut : p.pending ≡ Shut
  pub place : row_of tag ≡ 11 → spot ≡ tag_spot (file_list l) tag

-- what rules c and d have passed
pub record Dued (p : Running) (spot : Spot) (tag row : ℕ) (l : Loading) (a : List ℕ) : Type 0 where
  pub stands : Stands p spot tag l a
  pub personal : eqb p.internal 0x5A ≡ true
  pub row_due : due p.rows p.last row tag ≡ true
  pub its : row ≡ row_of tag

-- and e: the most bytes that the value may have, behind a record's base
pub record Roomed (p : Running) (tag row base room : ℕ) (l : Loading) (a : List ℕ) : Type 0 where
  pub steady : Steady area_size (on p l a)
  pub shut : p.pending ≡ Shut
  pub personal : eqb p.internal 0x5A ≡ true
  pub row_due : due p.rows p.last row tag ≡ true
  pub roomed : room_of (file_list l) row tag ≡ Passes room
  pub placed : row ≡ 11 → tag_spot (file_list l) tag ≡ At base room
