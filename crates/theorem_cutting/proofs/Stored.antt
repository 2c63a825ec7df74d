-- An event as a record, and read from it again; records end to end, and apart again.
use Prim.Native.Nat.{ℕ, suc, ◌+◌, ◌-◌, ◌*◌, ◌≤◌}
use mathlib.Core.Path.{◌≡◌, refl, ap, ap₂}
use mathlib.Core.Bool.{true}
use mathlib.Core.List.{List, [], ◌∷◌, map}
use native.Mathlib.Omega.{arith}
use lib.ListN.{length, length-append, length-replicate}
use lib.Seq.{take-append_seam, drop-append_seam, take_at, drop_at}
use Rattle.lists.specs.Joined.{joined}
use Rattle.lists.specs.Bytes.{byte_at, zeros, zeros_zero}
use Rattle.model.specs.declared.Card.{Card}
use Rattle.model.specs.Stored.{Event, event_in, is_kind, padded_zero, record_of, record_size, data_room}
use Rattle.model.specs.Events.{event}
use Rattle.model.specs.Session.{replied, turn_of, records_in}
use Rattle.model.specs.Order.{cut_of, stored, stored_all, records_for}
use Rattle.theorem_cutting.specs.Job.{data_in}
use Rattle.theorem_cutting.specs.Packs.{Sized, more}

pub record_length : (e : Event) → length e.bytes ≤ data_room → length (record_of e) ≡ record_size
unfolding record_of
record_length e h = rw (
  length-append e.bytes (zeros (256 - length e.bytes)),
  length-replicate {A = ℕ} (256 - length e.bytes) 0,
) (omega arith)

-- an event read from its record
pub event_back : (e : Event) → event_in (record_of e) ≡ e
unfolding record_of
event_back e = rw (take-append_seam e.bytes (zeros (256 - length e.bytes)))

data_stored : (p1 : ℕ) (d : List ℕ) → data_in (stored p1 d) ≡ d
data_stored p1 d = ap (λ (e : Event). e.bytes) (event_back (record { kind = 2; p1 = p1; bytes = d }))

past : (n : ℕ) → 4 + n ≡ suc (suc (suc (suc n)))
past n = omega arith

-- what must be zero is
pub record_padded : (e : Event) → padded_zero (record_of e) ≡ true
unfolding padded_zero record_of
record_padded e = rw (past (length e.bytes), drop-append_seam e.bytes (zeros (256 - length e.bytes)))
    (zeros_zero (256 - length e.bytes))

-- so a stored event is played
kind_stored : (e : Event) → is_kind e.kind ≡ true → is_kind (byte_at (record_of e) 0) ≡ true
unfolding record_of
kind_stored e k = k

pub turn_stored : (e : Event) (c : Card) (a : List ℕ) → is_kind e.kind ≡ true
    → turn_of c a (record_of e) ≡ replied (event e c a)
unfolding turn_of
turn_stored e c a k =
    rw (kind_stored e k, record_padded e) (ap (λ (x : Event). replied (event x c a)) (event_back e))

-- records of 260 bytes each, end to end
pub sized_one : (r : List ℕ) (rs : List (List ℕ)) → length r ≡ record_size → Sized record_size record_size rs
    → Sized record_size record_size (r ∷ rs)
sized_one r rs e z = let l : record_size ≤ length r = omega arith in let m : length r ≤ record_size =
    omega arith in more l m z

pub joined_length : (rs : List (List ℕ)) → Sized record_size record_size rs
    → length (joined rs) ≡ length rs * record_size
unfolding joined
joined_length [] h = refl
joined_length (r ∷ rs) (more l m h) =
    let f : length (joined rs) ≡ length rs * record_size = joined_length rs h in
    rw (length-append r (joined rs)) (omega arith)

pub joined_apart : (rs : List (List ℕ)) → Sized record_size record_size rs → records_in (length rs) (joined rs) ≡ rs
unfolding joined records_in
joined_apart [] h = refl
joined_apart (r ∷ rs) (more l m h) =
    let n : length r ≡ record_size = omega arith in
    rw (take_at r (joined rs) record_size n, drop_at r (joined rs) record_size n, joined_apart rs h)

-- the data that records hold
stored_data : (cs : List (List ℕ)) → map data_in (stored_all cs) ≡ cs
unfolding stored_all
stored_data [] = refl
stored_data (c ∷ []) = ap (λ (l : List ℕ). l ∷ []) (data_stored 0x80 c)
stored_data (c ∷ d ∷ cs) = ap₂ (λ (l : List ℕ) (ls : List (List ℕ)). l ∷ ls) (data_stored 0x00 c)
    (stored_data (d ∷ cs))

-- the writer's records hold 94 84 00 and then the cut
pub records_hold : (order : List ℕ) → map data_in (records_for order) ≡ (0x94 ∷ 0x84 ∷ 0x00 ∷ []) ∷ cut_of order
unfolding records_for
records_hold order = ap₂ (λ (l : List ℕ) (ls : List (List ℕ)). l ∷ ls) (data_stored 0x01 (0x94 ∷ 0x84 ∷ 0x00 ∷ []))
    (stored_data (cut_of order))
