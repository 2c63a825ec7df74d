-- Which records are events.
use Rattle.std.specs.Prelude.{ℕ, ◌≡◌, refl, Bool, true, false, cond, not, ◌&&◌, List, eqb}
use Rattle.lists.specs.Bytes.{byte_at}
use Rattle.model.specs.Stored.{Event, is_kind, padded_zero}

-- an event as the code has it
abbrev pub event_of : ℕ → ℕ → List ℕ → Event
event_of k p b = record { kind = k; p1 = p; bytes = b }

-- "4: kind not 1 to 8"; "5: a byte that must be zero isn't"; 0: the record is an event
unfoldable pub fault : Bool → Bool → ℕ
fault kind padded = cond (not kind) 4 (cond (not padded) 5 0)

abbrev pub fault_in : List ℕ → ℕ
fault_in r = fault (is_kind (byte_at r 0)) (padded_zero r)

-- no number refuses an event, and an event is refused by none
pub fault_none : (k z : Bool) → eqb (fault k z) 0 ≡ (k && z)
unfolding fault
fault_none true true = refl
fault_none true false = refl
fault_none false z = refl
