-- Laws of the definition that more than one layer goes by.
use Prim.Native.Nat.{ℕ, zero, suc, ◌≤◌}
use mathlib.Core.Path.{◌≡◌, refl, ap}
use mathlib.Core.Bool.{true, not, ◌&&◌}
use mathlib.Core.List.{List, [], ◌∷◌}
use native.Mathlib.Omega.{arith}
use lib.Dec.{eqb}
use lib.ListN.{length, drop, length-append, length-replicate}
use borrow.Author.Tests.{leb-true}
use Rattle.lists.specs.Choice.{by_cond}
use Rattle.lists.specs.Truth.{and_l, and_r}
use Rattle.model.specs.declared.Head.{Head}
use Rattle.model.specs.declared.Spot.{Spot}
use Rattle.model.specs.declared.Spot.TheVariants.{Nowhere, At}
use Rattle.model.specs.declared.Verdict.TheVariants.{Passes}
use Rattle.model.specs.Stored.{record_size, data_room, record_of}
use Rattle.model.specs.Rows.{due}
use Rattle.model.specs.Loads.{State}
use Rattle.model.specs.Rules.{Result, went, asked, failed, alone_at_start, bit1, bit8, challenged, query, room_in}
use Rattle.model.specs.Rules.{length_ok}
use Rattle.model.specs.Session.{records_in}
use Rattle.model.specs.Order.{units_in, cut_of, stored, stored_all, records_for}

-- a query never goes on
abbrev pub Stops : {A : Type 0} → Result A → Type 0
Stops (went a s) = ⊥
Stops (asked t s) = Unit {0}
Stops (failed w s) = Unit {0}

pub query_stops : (n p1 : ℕ) (bytes : List ℕ) (h : Head) (s : State) → Stops (query n p1 bytes h s)
unfolding query challenged
query_stops n p1 bytes h s =
    by_cond Stops (alone_at_start n bytes h)
    (λ a. by_cond Stops (bit1 p1 && not (bit8 p1))
    (λ b. by_cond Stops (eqb h.tag 0x9484)
    (λ c. by_cond Stops (eqb s.load.running.internal 0xCC && due s.load.running.rows
    s.load.running.last 1 0x9484) (λ d. tt) (λ d. tt))
    (λ c. tt))
    (λ b. tt))
    (λ a. tt)

-- rule e finds a record with its size
pub room_spot_lem : (x : Spot) (room : ℕ) → room_in x ≡ Passes room → (base : ℕ) × (x ≡ At base room)
room_spot_lem Nowhere room e = absurd (let z : ◌≡◌ {A = ℕ} 0 1 = cc in omega arith)
room_spot_lem (At base size) room e = (base, cc)

-- rule f's most
pub length_most : (row room len : ℕ) → length_ok row room len ≡ true → len ≤ room
length_most row room len h = leb-true len room (search (and_l, and_r))

-- the records of a session
pub length_records : (n : ℕ) (b : List ℕ) → length (records_in n b) ≡ n
unfolding records_in
length_records zero b = refl
length_records (suc n) b = rw (length_records n (drop record_size b))

-- no bytes have no units
pub units_none : (fuel : ℕ) → units_in fuel [] ≡ []
unfolding units_in
units_none zero = refl
units_none (suc fuel) = refl

-- the writer's records: their size, and how many there are
pub length_stored : (p1 : ℕ) (d : List ℕ) → length d ≤ data_room → length (stored p1 d) ≡ record_size
unfolding record_of
length_stored p1 d h = simp (length-append, length-replicate) (omega arith)

pub length_all : (cs : List (List ℕ)) → length (stored_all cs) ≡ length cs
unfolding stored_all
length_all [] = refl
length_all (c ∷ []) = refl
length_all (c ∷ d ∷ cs) = ap suc (length_all (d ∷ cs))

pub length_written : (order : List ℕ) → length (records_for order) ≡ suc (length (cut_of order))
unfolding records_for
length_written order = ap suc (length_all (cut_of order))
