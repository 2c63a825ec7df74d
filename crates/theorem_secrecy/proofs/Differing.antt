-- Witnesses of the demand, computed: sessions that differ only in secrets, and sessions that differ elsewhere; and
-- calls that told a key's byte would not meet it.
use Prim.Native.Nat.{ℕ, ◌-◌}
use mathlib.Core.Path.{◌≡◌, refl}
use mathlib.Core.Bool.{Bool, true, false, not, ◌&&◌}
use mathlib.Core.List.{List, [], ◌∷◌, ◌++◌}
use lib.Dec.{T, eqb}
use lib.ListN.{set, replicate}
use Rattle.lists.specs.Truth.{never, both}
use Rattle.lists.specs.Bytes.{byte_at, same, same_eq, eq_same, zeros}
use Rattle.model.specs.declared.Card.{Card}
use Rattle.model.specs.Stored.{Event, area_size, answer_room}
use Rattle.model.specs.Events.{with_gp}
use Rattle.model.specs.Session.{Turn, turn_of}
use Rattle.model.proofs.Computed.{computed}
use Rattle.model.proofs.Scenes.{Bytes, blank_card, select, command, serial, key, asked}
use Rattle.theorem_secrecy.specs.View.{Hiding, every, all_but, secret_marks, marks_walk, marks_command, marks_in}
use Rattle.theorem_secrecy.specs.View.{view, Way, in_session, playable, marks_played, one_by_one}
use Rattle.theorem_secrecy.specs.Alike.{secret_of, turn_at, Differs}
use Rattle.theorem_secrecy.proofs.Agree.{hidden_view, view_hidden}
use Rattle.theorem_secrecy.proofs.Witnesses.{to_secrets, key_of, loading, records}

-- one session differs from another only in secrets exactly where the two look alike by the marks of the first
unfoldable pub looks_as : Hiding → Way → Card → Bytes → List Bytes → List Bytes → Bool
looks_as z way c a [] [] = true
looks_as z way c a [] (q ∷ qs) = false
looks_as z way c a (r ∷ rs) [] = false
looks_as z way c a (r ∷ rs) (q ∷ qs) =
    let t = way.turn c a r in
    same (view z (way.marks c a r) r) (view z (way.marks c a r) q) && looks_as z way t.card t.area rs qs

module _ (z : Hiding) (way : Way) where
  pub looks_differs : (c : Card) (a : Bytes) (x y : List Bytes) → looks_as z way c a x y ≡ true
      → Differs z way c a x y
  unfolding looks_as Differs
  looks_differs c a [] [] e = tt
  looks_differs c a [] (q ∷ qs) e = never e
  looks_differs c a (r ∷ rs) [] e = never e
  looks_differs c a (r ∷ rs) (q ∷ qs) e =
      let ms = way.marks c a r in
      let t = way.turn c a r in
      let h = both (same (view z ms r) (view z ms q)) e in (
        view_hidden z ms r q (same_eq (view z ms r) (view z ms q) h.0),
        looks_differs t.card t.area rs qs
            h.1,
      )

  pub differs_looks : (c : Card) (a : Bytes) (x y : List Bytes) → Differs z way c a x y
      → looks_as z way c a x y ≡ true
  unfolding looks_as Differs
  differs_looks c a [] [] e = refl
  differs_looks c a [] (q ∷ qs) e = absurd e
  differs_looks c a (r ∷ rs) [] e = absurd e
  differs_looks c a (r ∷ rs) (q ∷ qs) e =
      let ms = way.marks c a r in
      let t = way.turn c a r in
      rw (hidden_view z ms r q e.0, eq_same (view z ms q)) (differs_looks t.card t.area rs qs e.1)

-- two sessions of a fresh card of capacity 10 with zeros for files, how they are taken, and bytes that may differ
pub record Pair : Type 0 where
  pub hiding : Hiding
  pub way : Way
  pub one : List Event
  pub other : List Event

unfoldable pub alike : Pair → Bool
alike p = looks_as p.hiding p.way (blank_card 10) (zeros area_size) (records p.one) (records p.other)

unfoldable pub all : (Pair → Bool) → List Pair → Bool
all f [] = true
all f (p ∷ ps) = f p && all f ps

-- a whole loading, and one with another byte all over its keys
abbrev loadings : Hiding → Way → Pair
loadings z w = record { hiding = z; way = w; one = loading 0x5C; other = loading 0xC5 }

-- groupings after the table, and others
abbrev behind : Bytes → Bytes → Pair
behind x y = record {
  hiding = every;
  way = in_session;
  one = asked (command 0x00 (to_secrets ++ x) ∷ select ∷ []);
  other = asked (command 0x00 (to_secrets ++ y) ∷ select ∷ []);
}

abbrev cut : ℕ → Bytes
cut v = 0x38 ∷ 0x00 ∷ 5 ∷ v ∷ []

abbrev long : ℕ → Bytes
long v = 0x38 ∷ 0x00 ∷ 65 ∷ replicate 65 v

unfoldable pub only_in_secrets : List Pair
only_in_secrets =
    loadings every in_session ∷ loadings every (one_by_one answer_room)
    ∷ behind (key_of 0x38 0x00 0x5C) (key_of 0x38 0x00 0xC5)
    ∷ behind (key_of 0x38 0x00 0x5C ++ serial) (key_of 0x38 0x00 0xC5 ++ serial)
    ∷ []

unfoldable pub elsewhere : List Pair
elsewhere =
    -- in a byte that may not; where each call is refused
    loadings (all_but 3 15) in_session ∷ loadings every (one_by_one (answer_room - 1))
    -- in a grouping that fails: not due, 65 bytes, cut short; in a length; behind what failed
    ∷ behind (key_of 0x41 0x01 0x5C) (key_of 0x41 0x01 0xC5)
    ∷ behind (long 0x5C) (long 0xC5)
    ∷ behind (cut 0x5C) (cut 0xC5)
    ∷ behind (key 0x38 0x00 5) (key 0x38 0x00 6)
    ∷ behind (serial ++ key_of 0x38 0x00 0x5C) (serial ++ key_of 0x38 0x00 0xC5)
    ∷ []

pub told_apart : T (all alike only_in_secrets && all (λ p. not (alike p)) elsewhere)
unfolding computed only_in_secrets elsewhere all alike looks_as records secret_marks marks_walk marks_command marks_in view
    playable marks_played
told_apart = tt

-- so the theorem speaks of something: these two loadings, whose kept keys `look_alike` shows to differ
pub keys_differ : Differs every (one_by_one answer_room) (blank_card 10) (zeros area_size) (records (loading 0x5C))
    (records (loading 0xC5))
unfolding computed looks_as records secret_marks marks_walk marks_command marks_in view playable marks_played
keys_differ =
    looks_differs every (one_by_one answer_room) (blank_card 10) (zeros area_size) (records (loading 0x5C))
    (records (loading 0xC5)) refl

-- Calls that tell the last byte of '4103': the two loadings still differ only in secrets, and what comes of the
-- fourth event is not the same. No such card meets the demand.
pub record Leak : Type 0 where
  pub tells : Turn → Turn
  pub seen : Turn → ℕ

abbrev key_byte : Turn → ℕ
key_byte t = byte_at (secret_of t.card 3).bytes 15

abbrev turn_with : ℕ → ℕ → Bytes → Card → Bytes → Turn
turn_with n w s c a = record { number = n; word = w; answer = s; card = c; area = a }

unfoldable pub leaks : List Leak
leaks =
    record { tells = λ t. turn_with (key_byte t) t.word t.answer t.card t.area; seen = λ t. t.number }
    ∷ record { tells = λ t. turn_with t.number (key_byte t) t.answer t.card t.area; seen = λ t. t.word }
    ∷ record {
      tells = λ t. turn_with t.number t.word (key_byte t ∷ []) t.card t.area;
      seen = λ t. byte_at t.answer 0;
    }
    ∷ record {
      tells = λ t. turn_with t.number t.word t.answer t.card (set t.area 9 (key_byte t));
      seen = λ t. byte_at t.area 9;
    }
    ∷ record {
      tells = λ t. turn_with t.number t.word t.answer (with_gp (key_byte t) true t.card) t.area;
      seen = λ t. t.card.life.gp;
    }
    ∷ []

abbrev telling : Leak → Way
telling l = record { marks = marks_in; turn = λ c a r. l.tells (turn_of c a r) }

abbrev fourth : Leak → ℕ → ℕ
fourth l v = l.seen (turn_at (telling l) (blank_card 10) (zeros area_size) (records (loading v)) 3)

unfoldable pub all_tell : List Leak → Bool
all_tell [] = true
all_tell (l ∷ ls) = alike (loadings every (telling l)) && not (eqb (fourth l 0x5C) (fourth l 0xC5)) && all_tell ls

pub leaks_tell : T (all_tell leaks)
unfolding computed leaks all_tell turn_at alike looks_as records secret_marks marks_walk marks_command marks_in view
leaks_tell = tt
