-- A reply played, and a refusal.
use Prim.Native.Nat.{ℕ}
use mathlib.Core.Path.{◌≡◌, refl, sym}
use mathlib.Core.Bool.{Bool, true, false, cond, not}
use mathlib.Core.List.{List}
use native.Mathlib.Omega.{arith}
use Rattle.lists.specs.Bytes.{byte_at}
use Rattle.lists.specs.Over.{over_none}
use Rattle.model.specs.declared.Card.{Card}
use Rattle.model.specs.declared.Played.{Played}
use Rattle.model.specs.Stored.{event_in, is_kind, padded_zero}
use Rattle.model.specs.Events.{Reply, event}
use Rattle.model.specs.Session.{Turn, refused_by, replied, turn_of}
use Rattle.answers.specs.Answers.{Answers}
use Rattle.event_kinds.specs.Faults.{fault, fault_in}
use Rattle.event_replies.specs.Plays.{Plays}

-- a reply played, and a refusal
pub played : {x : Reply} {r : Played} {area before after : List ℕ} → r.number ≡ 0
    → Answers x r.word r.answered r.card area before after
    → Plays (replied x) r area before after
played e h = record {
  numbers = e;
  says = h.says;
  counts = h.counts;
  leaves = h.leaves;
  keeps = h.keeps;
  writes =
      h.writes;
}

pub plays : {x : Reply} {w n : ℕ} {c : Card} {area before after : List ℕ} → Answers x w n c area before after
    → Plays (replied x) (record { number = 0; word = w; answered = n; card = c }) area before after
plays h = played refl h

pub refused : (n : ℕ) (c : Card) (a buffer : List ℕ)
    → Plays (refused_by n c a) (record { number = n; word = 0; answered = 0; card = c }) a buffer buffer
refused n c a buffer = record {
  numbers = refl;
  says = refl;
  counts = refl;
  leaves = refl;
  keeps = refl;
  writes = sym
      (over_none buffer 0);
}

-- a record that no number refuses is an event, and its number refuses any other
no_fault : (k z : Bool) → fault k z ≡ 0 → (k ≡ true) × (z ≡ true)
unfolding fault
no_fault true true e = (refl, refl)
no_fault true false e = absurd (omega arith)
no_fault false z e = absurd (omega arith)

by_fault : (k z : Bool) (c : Card) (a : List ℕ) (x : Turn) → (fault k z ≡ 0 → ⊥)
    → cond (not k) (refused_by 4 c a) (cond (not z) (refused_by 5 c a) x) ≡ refused_by (fault k z) c a
unfolding fault
by_fault true true c a x n = absurd (n refl)
by_fault true false c a x n = refl
by_fault false z c a x n = refl

module _ (c : Card) (a r : List ℕ) where
  pub fault_turn : (fault_in r ≡ 0 → ⊥) → turn_of c a r ≡ refused_by (fault_in r) c a
  unfolding turn_of
  fault_turn n = by_fault (is_kind (byte_at r 0)) (padded_zero r) c a _ n

  pub event_turn : fault_in r ≡ 0 → turn_of c a r ≡ replied (event (event_in r) c a)
  unfolding turn_of
  event_turn e = let f = no_fault (is_kind (byte_at r 0)) (padded_zero r) e in rw (f.0, f.1)
