-- One STORE DATA command: an open value's bytes, the groupings, the end, and what an error leaves.
use Rattle.std.specs.Prelude.{ℕ, zero, suc, Bool, true, false, cond, not, ◌&&◌, List, [], ◌∷◌, length}
use Rattle.model.specs.declared.Open.{Open}
use Rattle.model.specs.declared.Open.TheVariants.{Shut, Table, Record}
use Rattle.model.specs.Rows.{mandatory_missing}
use Rattle.model.specs.Loads.{State, with_internal, changed}
use Rattle.model.specs.Rules.{went, failed, Rule, ◌>>=◌, ◌>>◌, bit8, fed, grouping}

-- groupings end to end; a grouping has at least a header, so as many turns as there are bytes are enough
unfoldable pub walk : ℕ → ℕ → ℕ → ℕ → List ℕ → Rule ℕ
walk zero capacity n p1 bytes = went 0
walk (suc fuel) capacity n p1 [] = went 0
walk (suc fuel) capacity n p1 (b ∷ bs) = do
  left ← grouping capacity n p1 (b ∷ bs)
  walk fuel capacity n p1 left

abbrev pub is_shut : Open → Bool
is_shut Shut = true
is_shut (Table held missing) = false
is_shut (Record tag written missing) = false

-- no mandatory row is missing, and no value open
unfoldable pub ready : State → Bool
ready s = not (mandatory_missing s.load.running.rows) && is_shut s.load.running.pending

-- "After the last grouping, P1 bit 8 asks for the end: a missing mandatory row or open value is '6985' and locks;
-- else 'A5'."
unfoldable pub the_end : ℕ → Rule ℕ
the_end p1 s = cond (bit8 p1) (cond (ready s) (went 0 (changed (with_internal 0xA5) s)) (failed 0x6985 s)) (went 0 s)

-- "An open value takes its bytes first. Then each grouping."
unfoldable pub command : ℕ → ℕ → List ℕ → Rule ℕ
command capacity p1 bytes = do
  left ← fed bytes
  walk (length left) capacity (length bytes) p1 left
  the_end p1
