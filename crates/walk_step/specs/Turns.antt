-- One step of a command: which record it is about, and what it comes to.
use Rattle.std.specs.Prelude.{ℕ, ◌+◌, ◌≤◌, cond, List, eqb}
use Rattle.model.specs.declared.Header.{Header}
use Rattle.model.specs.declared.Header.TheVariants.{Torn, Whole}
use Rattle.model.specs.declared.Open.{Open}
use Rattle.model.specs.declared.Open.TheVariants.{Shut, Table, Record}
use Rattle.model.specs.declared.Spot.{Spot}
use Rattle.model.specs.declared.Spot.TheVariants.{Nowhere, At}
use Rattle.model.specs.Rows.{row_of}
use Rattle.model.specs.Header.{header_of}
use Rattle.model.specs.Loads.{State}
use Rattle.model.specs.Rules.{Result, fed, grouping}

-- the tag of a record whose header comes; 0: none
abbrev pub record_tag : Header → ℕ
record_tag Torn = 0
record_tag (Whole h) = cond (eqb (row_of h.tag) 11) h.tag 0

abbrev pub head_tag : List ℕ → ℕ
head_tag bytes = record_tag (header_of bytes)

-- the tag of the record that a step is about
abbrev pub wanted_tag : Open → List ℕ → ℕ
wanted_tag Shut bytes = head_tag bytes
wanted_tag (Table held missing) bytes = 0
wanted_tag (Record tag written missing) bytes = tag

-- an open record's bytes fit its place
abbrev pub Fits : Open → Spot → Type 0
Fits Shut spot = Unit {0}
Fits (Table held missing) spot = Unit {0}
Fits (Record tag written missing) Nowhere = ⊥
Fits (Record tag written missing) (At base size) = written + missing ≤ size

-- "An open value takes its bytes first. Then each grouping."
abbrev pub turn_by : Open → ℕ → ℕ → ℕ → List ℕ → State → Result (List ℕ)
turn_by Shut capacity n p1 bytes s = grouping capacity n p1 bytes s
turn_by (Table held missing) capacity n p1 bytes s = fed bytes s
turn_by (Record tag written missing) capacity n p1 bytes s = fed bytes s

abbrev pub step_of : ℕ → ℕ → ℕ → List ℕ → State → Result (List ℕ)
step_of capacity n p1 bytes s = turn_by s.load.running.pending capacity n p1 bytes s
