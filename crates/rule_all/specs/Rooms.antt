-- Rule e, of a place that was found.
use Rattle.std.specs.Prelude.{ℕ, ◌≡◌, cond, List, eqb}
use Rattle.model.specs.declared.Head.{Head}
use Rattle.model.specs.declared.Header.TheVariants.{Whole}
use Rattle.model.specs.declared.Loading.{Loading}
use Rattle.model.specs.declared.Open.TheVariants.{Shut}
use Rattle.model.specs.declared.Running.{Running}
use Rattle.model.specs.declared.Spot.{Spot}
use Rattle.model.specs.declared.Spot.TheVariants.{At}
use Rattle.model.specs.Stored.{area_size}
use Rattle.model.specs.Rows.{row_at, row_of}
use Rattle.model.specs.Header.{header_of}
use Rattle.model.specs.Loads.{file_list}
use Rattle.model.specs.Rules.{tag_spot}
use Rattle.theorem_sound.proofs.Inside.{Steady}
use Rattle.walk_course.specs.Steps.{on}

-- a record's own place and size; for any other row the most that it allows
abbrev pub room_spot : Spot → ℕ → Spot
room_spot spot row = cond (eqb row 11) spot (At 0 (row_at row).most)

-- whichever loading part is as far: it is sound, nothing is open, and the place is that of the record whose header
-- comes
pub record Placed (p : Running) (spot : Spot) (bytes : List ℕ) (l : Loading) (a : List ℕ) : Type 0 where
  pub steady : Steady area_size (on p l a)
  pub shut : p.pending ≡ Shut
  pub place : (h : Head) → header_of bytes ≡ Whole h → row_of h.tag ≡ 11 → spot ≡ tag_spot (file_list l) h.tag
