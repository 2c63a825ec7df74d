-- "Secrets stay secret": hiding commutes with a session, and so two sessions that look alike are alike.
use Prim.Native.Nat.{ℕ, zero, suc}
use mathlib.Core.Path.{◌≡◌, refl, ap, ap₂, sym, ◌∙◌}
use mathlib.Core.Bool.{false}
use mathlib.Core.List.{List, [], ◌∷◌}
use lib.ListN.{length, take}
use borrow.Author.Tests.{eq-eqb}
use Rattle.lists.specs.Bytes.{byte_at}
use Rattle.model.specs.declared.Chip.{Chip}
use Rattle.model.specs.declared.Card.{Card}
use Rattle.model.specs.Stored.{fresh_card}
use Rattle.model.specs.Session.{Turn, turn_of, Run, turned, after, run_from}
use Rattle.theorem_secrecy.specs.View.{Hiding, every, all_but, Way, in_session, view_record, views_from}
use Rattle.theorem_secrecy.specs.Veil.{veil, veil_turn, veil_run}
use Rattle.theorem_secrecy.specs.Alike.{secret_of, AlikeRuns, AlikeSessions, turn_at, start}
use Rattle.theorem_secrecy.proofs.Turns.{Commutes, hides_turn}
use Rattle.theorem_secrecy.proofs.Cards.{alike_turns, alike_runs}

-- events that are taken in a way with which hiding commutes
module _ (z : Hiding) (way : Way) (hides : Commutes z way) where
  hides_turns : (c : Card) (a : List ℕ) (rs : List (List ℕ)) (k : ℕ)
      → turn_at way (veil z c) a (views_from z way c a rs) k ≡ veil_turn z (turn_at way c a rs k)
  unfolding turn_at views_from
  hides_turns c a [] k = refl
  hides_turns c a (r ∷ rs) zero = hides c a r
  hides_turns c a (r ∷ rs) (suc k) =
      let t = way.turn c a r in
      ap (λ (u : Turn). turn_at way u.card u.area (views_from z way t.card t.area rs) k)
      (hides c a r) ∙ hides_turns t.card t.area rs k

  pub same_turns : (c d : Card) (a : List ℕ) (x y : List (List ℕ)) → veil z c ≡ veil z d
      → views_from z way c a x ≡ views_from z way d a y
      → (k : ℕ) → veil_turn z (turn_at way c a x k) ≡ veil_turn z (turn_at way d a y k)
  same_turns c d a x y cards views k =
      sym (hides_turns c a x k) ∙ ap₂ (λ (s : Card) (l : List (List ℕ)). turn_at way s a l k) cards views ∙ hides_turns
      d a y k

module _ (z : Hiding) where
  -- hiding commutes with a session
  pub hides_run : (w : Run) (rs : List (List ℕ))
      → run_from (veil_run z w) (views_from z in_session w.card w.area rs) ≡ veil_run z (run_from w rs)
  unfolding run_from views_from after
  hides_run w [] = refl
  hides_run w (r ∷ rs) =
      let t = turn_of w.card w.area r in
      ap (λ (u : Turn). run_from (turned (veil_run z w) u) (views_from z in_session t.card t.area rs))
      (hides_turn z w.card w.area r) ∙ hides_run (turned w t) rs

  -- the view of a session's beginning is the beginning of its view
  views_take : (c : Card) (a : List ℕ) (rs : List (List ℕ)) (k : ℕ)
      → views_from z in_session c a (take k rs) ≡ take k (views_from z in_session c a rs)
  unfolding views_from
  views_take c a rs zero = refl
  views_take c a [] (suc k) = refl
  views_take c a (r ∷ rs) (suc k) = ap (λ (l : List (List ℕ)). view_record z c a r ∷ l)
      (views_take (turn_of c a r).card (turn_of c a r).area rs k)

  length_views : (c : Card) (a : List ℕ) (rs : List (List ℕ)) → length (views_from z in_session c a rs) ≡ length rs
  unfolding views_from
  length_views c a [] = refl
  length_views c a (r ∷ rs) = ap suc (length_views (turn_of c a r).card (turn_of c a r).area rs)

  -- two sessions that look alike, from cards that look alike and equal file areas
  module _ (c d : Card) (a : List ℕ) (x y : List (List ℕ)) (cards : veil z c ≡ veil z d)
      (views : views_from z in_session c a x ≡ views_from z in_session d a y) where
    same_count : length x ≡ length y
    same_count = sym (length_views c a x) ∙ ap (λ (l : List (List ℕ)). length l) views ∙ length_views d a y

    same_runs : (k : ℕ) → AlikeRuns z (run_from (start c a) (take k x)) (run_from (start d a) (take k y))
    same_runs k =
        alike_runs z (run_from (start c a) (take k x)) (run_from (start d a) (take k y))
        (sym (hides_run (start c a) (take k x))
        ∙ ap₂ (λ (s : Card) (l : List (List ℕ)). run_from (start s a) l) cards
        (views_take c a x k ∙ ap (take k) views ∙ sym (views_take d a y k))
        ∙ hides_run (start d a) (take k y))

    pub alike_sessions : AlikeSessions z c d a x y
    alike_sessions = record {
      count = same_count;
      events = λ k.
          alike_turns z (turn_at in_session c a x k) (turn_at in_session d a y k)
          (same_turns z in_session (hides_turn z) c d a x y cards views k);
      runs = same_runs;
    }

-- THE THEOREM. Two sessions from fresh cards of one chip, with equal file areas, alike but for value bytes inside
-- '3800' and '410n' groupings that pass all their checks: event by event every number, word, answer and file byte is
-- the same, and the card in all but its secrets' bytes
pub alike_by_views : (chip : Chip) (a : List ℕ) (x y : List (List ℕ))
    → views_from every in_session (fresh_card chip) a x ≡ views_from every in_session (fresh_card chip) a y
    → AlikeSessions every (fresh_card chip) (fresh_card chip) a x y
alike_by_views chip a x y views = alike_sessions every (fresh_card chip) (fresh_card chip) a x y refl views

-- "the cards differ only in the kept secrets, at those bytes": where the sessions are alike in byte j of secret k
-- too, so are the cards
but_not_that : (k j : ℕ) → all_but k j k j ≡ false
but_not_that k j = rw (eq-eqb k k refl, eq-eqb j j refl)

pub only_at_those_bytes : (chip : Chip) (a : List ℕ) (x y : List (List ℕ)) (k j : ℕ)
    → views_from (all_but k j) in_session (fresh_card chip) a x ≡ views_from (all_but k j) in_session (fresh_card chip) a y
    → (n : ℕ) → byte_at (secret_of (turn_at in_session (fresh_card chip) a x n).card k).bytes j
    ≡ byte_at (secret_of (turn_at in_session (fresh_card chip) a y n).card k).bytes j
only_at_those_bytes chip a x y k j views n =
    ((alike_sessions (all_but k j) (fresh_card chip) (fresh_card chip) a x y refl views).events n).card.bytes k j
    (but_not_that k j)
