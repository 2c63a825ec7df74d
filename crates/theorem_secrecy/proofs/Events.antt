-- Hiding commutes with an event.
use Prim.Native.Nat.{ℕ}
use mathlib.Core.Path.{◌≡◌, refl, sym}
use mathlib.Core.Bool.{Bool, true, false, cond, not, ◌&&◌, ◌||◌, and-true, and-eq-true_iff, true≢false}
use mathlib.Core.List.{List}
use lib.Dec.{eqb}
use borrow.Author.Tests.{eqb-true}
use Rattle.lists.specs.Bytes.{byte_at}
use Rattle.model.specs.declared.Card.{Card}
use Rattle.model.specs.Stored.{Event, event_in, padded_zero}
use Rattle.model.specs.Rules.{Result, went, asked, failed}
use Rattle.model.specs.Command.{command}
use Rattle.model.specs.Events.{Reply, with_loading, locked, says, Names, is_name, name_fci, full_fci, names_in, installing}
use Rattle.model.specs.Events.{making_selectable, install, invalidated, select, lock, unlock, deselect, foreign}
use Rattle.model.specs.Events.{answer_to, errs, commanded, store_data, stuck, personalizing, otherwise, event}
use Rattle.model.specs.Session.{replied, turn_of}
use Rattle.theorem_secrecy.specs.View.{marks_command, walked, state_in, Hiding, view}
use Rattle.theorem_secrecy.specs.Veil.{veil}
use Rattle.theorem_secrecy.proofs.Marks.{length_view}
use Rattle.theorem_secrecy.proofs.Veils.{veil_result}
use Rattle.theorem_secrecy.proofs.Commands.{hides_command}

-- a STORE DATA that is not walked, at '07' or out of '5A', is one of a card that is not selected
pub unselected : (k2 sel i5 g7 : Bool) → (k2 && sel && (not i5 || g7)) ≡ false → k2 ≡ true → (not i5 || g7) ≡ true
    → sel ≡ false
unselected k2 sel i5 g7 w k o = rw (k, o, and-true) at w

-- a walked STORE DATA
chosen : (i5 g7 : Bool) (x y : Reply) → (not i5 || g7) ≡ true → cond i5 (cond g7 x y) x ≡ x
chosen true true x y o = refl
chosen true false x y o = absurd (true≢false (sym o))
chosen false g7 x y o = refl

abbrev pub storing : ℕ → List ℕ → Event
storing p1 d = record { kind = 2; p1 = p1; bytes = d }

pub stores : (p1 : ℕ) (d : List ℕ) (c : Card) (a : List ℕ)
    → (not (eqb c.loading.running.internal 0x5A) || eqb c.life.gp 0x07) ≡ true
    → event (storing p1 d) c a ≡ store_data p1 d c a
unfolding event personalizing otherwise
stores p1 d c a o = chosen (eqb c.loading.running.internal 0x5A) (eqb c.life.gp 0x07) (store_data p1 d c a)
    (stuck (storing p1 d) c a) o

-- the record of a walked STORE DATA
pub record Walks (r : List ℕ) (c : Card) : Type 0 where
  pub padded : padded_zero r ≡ true
  pub kind : byte_at r 0 ≡ 2
  pub selected : c.life.selected ≡ true
  pub at_07 : (not (eqb c.loading.running.internal 0x5A) || eqb c.life.gp 0x07) ≡ true

pub walks : (r : List ℕ) (c : Card) → (padded_zero r && walked (event_in r) c) ≡ true → Walks r c
walks r c w =
    let at_07 = not (eqb c.loading.running.internal 0x5A) || eqb c.life.gp 0x07 in
    let form = (and-eq-true_iff (padded_zero r) (walked (event_in r) c)).0 w in
    let place = (and-eq-true_iff (eqb (byte_at r 0) 2 && c.life.selected) at_07).0 form.1 in
    let store = (and-eq-true_iff (eqb (byte_at r 0) 2) c.life.selected).0 place.0 in
    record { padded = form.0; kind = eqb-true (byte_at r 0) 2 store.0; selected = store.1; at_07 = place.1 }

pub played : (c : Card) (a r : List ℕ) → byte_at r 0 ≡ 2 → padded_zero r ≡ true
    → turn_of c a r ≡ replied (event (event_in r) c a)
unfolding turn_of
played c a r k p = rw (k, p)

module _ (z : Hiding) where
  abbrev pub veil_reply : Reply → Reply
  veil_reply r = record { word = r.word; answer = r.answer; card = veil z r.card; area = r.area }

  -- a choice between replies, on a test that no secret's byte has a part in
  veil_if : (b : Bool) (x y : Reply) → cond b (veil_reply x) (veil_reply y) ≡ veil_reply (cond b x y)
  veil_if true x y = refl
  veil_if false x y = refl

  veil_errs : (w : ℕ) (c : Card) (a : List ℕ) → errs w (veil z c) a ≡ veil_reply (errs w c a)
  unfolding errs
  veil_errs w c a = on (eqb c.loading.running.internal 0x5A)
    where
      on : (b : Bool) → says w (cond b (locked (veil z c)) (veil z c)) a ≡ veil_reply (says w (cond b (locked c) c) a)
      on true = refl
      on false = refl

  veil_installing : (p1 : ℕ) (n : Names) (c : Card) (a : List ℕ)
      → installing p1 n (veil z c) a ≡ veil_reply (installing p1 n c a)
  unfolding installing
  veil_installing p1 n c a = simp (← veil_if)

  veil_selectable : (n : Names) (c : Card) (a : List ℕ)
      → making_selectable n (veil z c) a ≡ veil_reply (making_selectable n c a)
  unfolding making_selectable is_name
  veil_selectable n c a = simp (← veil_if)

  veil_install : (p1 : ℕ) (d : List ℕ) (c : Card) (a : List ℕ)
      → install p1 d (veil z c) a ≡ veil_reply (install p1 d c a)
  unfolding install
  veil_install p1 d c a = rw (veil_selectable (names_in d) c a, veil_installing p1 (names_in d) c a) (simp (← veil_if))

  veil_select : (d : List ℕ) (c : Card) (a : List ℕ) → select d (veil z c) a ≡ veil_reply (select d c a)
  unfolding select is_name name_fci full_fci invalidated
  veil_select d c a = simp (← veil_if)

  veil_lock : (c : Card) (a : List ℕ) → lock (veil z c) a ≡ veil_reply (lock c a)
  unfolding lock
  veil_lock c a = simp (← veil_if)

  veil_unlock : (c : Card) (a : List ℕ) → unlock (veil z c) a ≡ veil_reply (unlock c a)
  unfolding unlock
  veil_unlock c a = simp (← veil_if)

  veil_deselect : (c : Card) (a : List ℕ) → deselect (veil z c) a ≡ veil_reply (deselect c a)
  unfolding deselect
  veil_deselect c a = refl

  veil_foreign : (c : Card) (a : List ℕ) → foreign (veil z c) a ≡ veil_reply (foreign c a)
  unfolding foreign
  veil_foreign c a = refl

  veil_stuck : (e : Event) (c : Card) (a : List ℕ) → stuck e (veil z c) a ≡ veil_reply (stuck e c a)
  unfolding stuck is_name name_fci
  veil_stuck e c a = simp (← veil_if)

  -- STORE DATA
  veil_commanded : (c : Card) (r : Result ℕ) → commanded (veil z c) (veil_result z r) ≡ veil_reply (commanded c r)
  veil_commanded c (went n s) = refl
  veil_commanded c (asked tag s) = unfold answer_to in refl
  veil_commanded c (failed w s) = veil_errs w (with_loading s.load c) s.area

  hides_store : (p1 : ℕ) (d : List ℕ) (c : Card) (a : List ℕ)
      → store_data p1 (view z (marks_command c.chip.capacity p1 d (state_in c a)) d) (veil z c) a
      ≡ veil_reply (store_data p1 d c a)
  unfolding store_data
  hides_store p1 d c a =
      let capacity = c.chip.capacity in
      let ms = marks_command capacity p1 d (state_in c a) in
      rw (
        length_view z ms d,
        hides_command z capacity p1 d (state_in c a),
        veil_errs 0x6700 c a,
        veil_commanded c (command capacity p1 d (state_in c a)),
      )
      (simp (← veil_if))

  not_selected : (p1 : ℕ) (d : List ℕ) (c : Card) (a : List ℕ) → c.life.selected ≡ false
      → store_data p1 d (veil z c) a ≡ veil_reply (store_data p1 d c a)
  unfolding store_data
  not_selected p1 d c a e = rw e

  -- a reply and the one of the veiled card, chosen by the same tests
  record Veiled (x x' : Reply) : Type 0 where
    same : x' ≡ veil_reply x

  veiled_if : (b : Bool) {x x' y y' : Reply} → (b ≡ true → Veiled x x') → (b ≡ false → Veiled y y')
      → Veiled (cond b x y) (cond b x' y')
  veiled_if true p q = p refl
  veiled_if false p q = q refl

  -- an event that is no walked STORE DATA: no byte of it is hidden
  pub veil_event : (e : Event) (c : Card) (a : List ℕ) → walked e c ≡ false
      → event e (veil z c) a ≡ veil_reply (event e c a)
  unfolding event personalizing otherwise
  veil_event e c a w = on.same
    where
      kept_out : eqb e.kind 2 ≡ true → (not (eqb c.loading.running.internal 0x5A) || eqb c.life.gp 0x07)
          ≡ true
          → Veiled (store_data e.p1 e.bytes c a) (store_data e.p1 e.bytes (veil z c) a)
      kept_out k o =
          record {
            same = not_selected e.p1 e.bytes c a
                (unselected (eqb e.kind 2) c.life.selected (eqb c.loading.running.internal 0x5A)
                (eqb c.life.gp 0x07) w k o);
          }

      on : Veiled (event e c a) (event e (veil z c) a)
      on =
          veiled_if (eqb c.loading.running.internal 0x5A)
          (λ i. veiled_if (eqb c.life.gp 0x07)
          (λ g. veiled_if (eqb e.kind 2) (λ k. kept_out k (rw (i, g)))
          (λ _. record { same = veil_stuck e (locked c) a }))
          (λ _. record { same = veil_stuck e c a }))
          (λ i. veiled_if (eqb e.kind 1) (λ _. record { same = veil_install e.p1 e.bytes c a })
          (λ _. veiled_if (eqb e.kind 2) (λ k. kept_out k (rw i))
          (λ _. veiled_if (eqb e.kind 3) (λ _. record { same = veil_select e.bytes c a })
          (λ _. veiled_if (eqb e.kind 4) (λ _. record { same = veil_foreign c a })
          (λ _. veiled_if (eqb e.kind 7) (λ _. record { same = veil_lock c a })
          (λ _. veiled_if (eqb e.kind 8) (λ _. record { same = veil_unlock c a })
          (λ _. record { same = veil_deselect c a })))))))

  pub hides_event : (p1 : ℕ) (d : List ℕ) (c : Card) (a : List ℕ)
      → (not (eqb c.loading.running.internal 0x5A) || eqb c.life.gp 0x07) ≡ true
      → event (storing p1 (view z (marks_command c.chip.capacity p1 d (state_in c a)) d)) (veil z c) a
      ≡ veil_reply (event (storing p1 d) c a)
  hides_event p1 d c a o =
      rw (
        stores p1 d c a o,
        stores p1 (view z (marks_command c.chip.capacity p1 d (state_in c a)) d)
            (veil z c) a o,
      ) (hides_store p1 d c a)
