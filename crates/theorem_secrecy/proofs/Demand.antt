-- The demand: sessions that differ only in secrets look alike in each way of taking them, and so each call gives the
-- same.
use Prim.Native.Nat.{ℕ, ◌%◌, ◌/◌}
use mathlib.Core.Path.{◌≡◌, refl, ap, ap₂, sym, ◌∙◌}
use mathlib.Core.Bool.{cond, not}
use mathlib.Core.List.{List}
use lib.Dec.{eqb, ltb}
use lib.ListN.{length, take, drop}
use Rattle.lists.specs.Bytes.{zeros}
use Rattle.model.specs.declared.Card.{Card}
use Rattle.model.specs.declared.Shown.{Shown}
use Rattle.model.specs.Stored.{chip_size, chip_of, fresh_card, area_size, answer_room, record_size}
use Rattle.model.specs.Sound.{sound}
use Rattle.model.specs.Session.{Turn, Run, run_from, Session, no_run, run_of, shown_of, part_shown}
use Rattle.model.specs.Lines.{replay_of}
use Rattle.theorem_secrecy.specs.View.{Hiding, every, in_session, one_by_one, views_from, records_of}
use Rattle.theorem_secrecy.specs.Veil.{veil, veil_turn, veil_run, veil_session}
use Rattle.theorem_secrecy.specs.Alike.{AlikeTurns, AlikeCalls, turn_at, start, Differs}
use Rattle.theorem_secrecy.specs.Demand.{SecretsStaySecret}
use Rattle.theorem_secrecy.proofs.Turns.{hides_turn, hides_play, veil_sound}
use Rattle.theorem_secrecy.proofs.Cards.{alike_turns, alike_calls}
use Rattle.theorem_secrecy.proofs.Sessions.{same_turns, hides_run}
use Rattle.theorem_secrecy.proofs.Calls.{veil_session_if}
use Rattle.theorem_secrecy.proofs.Replay.{same_print}
use Rattle.theorem_secrecy.proofs.Differ.{agree_record, agree_play, agree_views}

-- whether a record may be shown asks of the secrets only their lengths
abbrev shown_in : ℕ → ℕ → Turn → Shown
shown_in sfi nn t = shown_of t.card t.area sfi nn

abbrev part_in : ℕ → ℕ → Turn → List ℕ
part_in sfi nn t = part_shown t.area (shown_in sfi nn t)

veil_shown : (z : Hiding) (sfi nn : ℕ) (t : Turn) → shown_in sfi nn (veil_turn z t) ≡ shown_in sfi nn t
unfolding shown_of
veil_shown z sfi nn t = rw (veil_sound z t.card)

module _ (z : Hiding) (c : Card) (a : List ℕ) (room : ℕ) where
  abbrev at : List (List ℕ) → ℕ → Turn
  at x k = turn_at (one_by_one room) c a x k

  -- an event a call
  module _ (x y : List (List ℕ)) (differs : Differs z (one_by_one room) c a x y) where
    pub play_views : views_from z (one_by_one room) c a x ≡ views_from z (one_by_one room) c a y
    play_views = agree_views z (one_by_one room) (hides_play every room) (agree_play room) c c a x y refl differs

    same_events : (k : ℕ) → veil_turn z (at x k) ≡ veil_turn z (at y k)
    same_events k = same_turns z (one_by_one room) (hides_play z room) c c a x y refl play_views k

    pub alike_events : (k : ℕ) → AlikeTurns z (at x k) (at y k)
    alike_events k = alike_turns z (at x k) (at y k) (same_events k)

    pub alike_shown : (k sfi nn : ℕ) → shown_in sfi nn (at x k) ≡ shown_in sfi nn (at y k)
    alike_shown k sfi nn =
        sym (veil_shown z sfi nn (at x k)) ∙ ap (shown_in sfi nn) (same_events k) ∙ veil_shown z sfi nn (at y k)

    pub alike_parts : (k sfi nn : ℕ) → part_in sfi nn (at x k) ≡ part_in sfi nn (at y k)
    alike_parts k sfi nn = ap₂ part_shown (alike_events k).area (alike_shown k sfi nn)

  -- a session a call: of the bytes the refusals ask only how many they are
  abbrev answered : ℕ → Run → Session
  answered n w =
      cond (not (eqb (length a) area_size)) (no_run 1 (veil z c) a)
      (cond (not (sound c)) (no_run 6 (veil z c) a)
      (cond (not (eqb (n % record_size) 0)) (no_run 3 (veil z c) a)
      (cond (ltb room (n / record_size)) (no_run 11 (veil z c) a) (record { number = 0; run = w }))))

  veil_answered : (b : List ℕ) → veil_session z (run_of c a room b)
      ≡ answered (length b) (veil_run z (run_from (start c a) (records_of b)))
  unfolding run_of
  veil_answered b = simp (← veil_session_if)

  pub alike_session : (x y : List ℕ) → length x ≡ length y → Differs z in_session c a (records_of x) (records_of y)
      → AlikeCalls z (run_of c a room x) (run_of c a room y)
  alike_session x y size differs =
      let views = agree_views z in_session (hides_turn every) agree_record c c a (records_of x) (records_of y) refl
      differs in
      let runs = sym (hides_run z (start c a) (records_of x)) ∙ ap (run_from (start (veil z c) a)) views ∙ hides_run z
      (start c a) (records_of y) in
      alike_calls z (run_of c a room x) (run_of c a room y)
      (veil_answered x ∙ ap₂ answered size runs ∙ sym (veil_answered y))

pub alike_print : (z : Hiding) (x y : List ℕ) → take chip_size x ≡ take chip_size y
    → Differs z (one_by_one answer_room) (fresh_card (chip_of (take chip_size x))) (zeros area_size)
    (records_of (drop chip_size x)) (records_of (drop chip_size y))
    → replay_of x ≡ replay_of y
alike_print z x y chips differs =
    let y' = records_of (drop chip_size y) in
    same_print z x y chips
    (play_views z (fresh_card (chip_of (take chip_size x))) (zeros area_size) answer_room (records_of (drop chip_size x)) y'
    differs
    ∙ ap (λ (b : List ℕ). views_from z (one_by_one answer_room) (fresh_card (chip_of b)) (zeros area_size) y') chips)

-- THE THEOREM, demand 3
pub secrets_stay_secret : (z : Hiding) → SecretsStaySecret z
secrets_stay_secret z = record {
  events = alike_events z;
  shown = λ c a room x y e k sfi nn. (alike_shown z c a room x y e k sfi nn, alike_parts z c a room x y e k sfi nn);
  session = alike_session z;
  printed = alike_print z;
}
