-- The calls: one event, and a session's bytes, with the numbers that they are refused by.
use Prim.Native.Nat.{ℕ, zero, suc, ◌*◌, ◌%◌}
use mathlib.Core.Path.{◌≡◌, refl, ap, ap₂, sym, ◌∙◌}
use mathlib.Core.Bool.{Bool, true, false, cond, not, true≢false}
use mathlib.Core.List.{List, ◌∷◌}
use native.Mathlib.Omega.{arith}
use lib.Dec.{eqb, ltb}
use lib.ListN.{length, take, drop, length-append, length-drop}
use lib.Seq.{take_at, drop_at, length-take-le}
use borrow.Author.Tests.{eqb-true}
use Rattle.lists.specs.Joined.{joined}
use Rattle.lists.specs.Choice.{by_cond}
use Rattle.model.specs.declared.Chip.{Chip}
use Rattle.model.specs.declared.Card.{Card}
use Rattle.model.specs.Stored.{fresh_card, record_size, area_size}
use Rattle.model.specs.Sound.{sound}
use Rattle.model.specs.Session.{turn_of, records_in, run_from, Session, no_run, events_in, run_of}
use Rattle.theorem_secrecy.specs.View.{Hiding, every, marks_in, view_record, in_session, one_by_one, views_from}
use Rattle.theorem_secrecy.specs.View.{view_of}
use Rattle.theorem_secrecy.specs.Veil.{veil, veil_session}
use Rattle.theorem_secrecy.specs.Alike.{AlikeTurns, AlikeCalls, turn_at, start}
use Rattle.theorem_secrecy.proofs.Marks.{length_view}
use Rattle.theorem_secrecy.proofs.Turns.{hides_play, veil_sound}
use Rattle.theorem_secrecy.proofs.Cards.{alike_turns, alike_calls}
use Rattle.theorem_secrecy.proofs.Sessions.{same_turns, hides_run}

-- tests of a session, in its order: it runs where all pass
runs_where : (area sound whole room : Bool) (x1 x6 x3 x11 x0 : Session) → x1.number ≡ 1 → x6.number ≡ 6
    → x3.number ≡ 3 → x11.number ≡ 11
    → eqb (cond (not area) x1 (cond (not sound) x6 (cond (not whole) x3 (cond room x11 x0)))).number 0 ≡ true
    → whole ≡ true
runs_where false sound whole room x1 x6 x3 x11 x0 e1 e6 e3 e11 e = absurd (true≢false (sym (rw e1 at e)))
runs_where true false whole room x1 x6 x3 x11 x0 e1 e6 e3 e11 e = absurd (true≢false (sym (rw e6 at e)))
runs_where true true false room x1 x6 x3 x11 x0 e1 e6 e3 e11 e = absurd (true≢false (sym (rw e3 at e)))
runs_where true true true room x1 x6 x3 x11 x0 e1 e6 e3 e11 e = refl

refused_where : (area sound whole room : Bool) (x1 x6 x3 x11 x0 y u : Session) → x0.number ≡ 0
    → eqb (cond (not area) x1 (cond (not sound) x6 (cond (not whole) x3 (cond room x11 x0)))).number 0 ≡ false
    → (z1 z6 z3 z11 : Session)
    → cond (not area) z1 (cond (not sound) z6 (cond (not whole) z3 (cond room z11 y)))
    ≡ cond (not area) z1 (cond (not sound) z6 (cond (not whole) z3 (cond room z11 u)))
refused_where false sound whole room x1 x6 x3 x11 x0 y u e0 e z1 z6 z3 z11 = refl
refused_where true false whole room x1 x6 x3 x11 x0 y u e0 e z1 z6 z3 z11 = refl
refused_where true true false room x1 x6 x3 x11 x0 y u e0 e z1 z6 z3 z11 = refl
refused_where true true true true x1 x6 x3 x11 x0 y u e0 e z1 z6 z3 z11 = refl
refused_where true true true false x1 x6 x3 x11 x0 y u e0 e z1 z6 z3 z11 = absurd (true≢false (rw e0 at e))

whole_records : (b : List ℕ) → eqb (length b % record_size) 0 ≡ true → length b ≡ events_in b * record_size
whole_records b e = omega (arith, eqb-true (length b % record_size) 0 e)

first_record : (n : ℕ) (b : List ℕ) → length b ≡ suc n * record_size → length (take record_size b) ≡ record_size
first_record n b e = length-take-le record_size b (omega arith)

other_records : (n : ℕ) (b : List ℕ) → length b ≡ suc n * record_size → length (drop record_size b) ≡ n * record_size
other_records n b e = rw (length-drop record_size b) (omega arith)

module _ (z : Hiding) where
  -- records end to end, as they may be seen, are that many bytes and those records
  length_joined : (n : ℕ) (c : Card) (a b : List ℕ) → length b ≡ n * record_size
      → length (joined (views_from z in_session c a (records_in n b))) ≡ n * record_size
  unfolding joined views_from records_in
  length_joined zero c a b e = refl
  length_joined (suc n) c a b e =
      let r = take record_size b in
      let t = turn_of c a r in
      let rest = joined (views_from z in_session t.card t.area (records_in n (drop record_size b))) in
      let later : length rest ≡ n * record_size =
      length_joined n t.card t.area (drop record_size b) (other_records n b e) in
      let size : length (view_record z c a r) ≡ record_size = length_view z (marks_in c a r) r ∙ first_record n b e in
      rw (length-append (view_record z c a r) rest, size, later) (omega arith)

  records_joined : (n : ℕ) (c : Card) (a b : List ℕ) → length b ≡ n * record_size
      → records_in n (joined (views_from z in_session c a (records_in n b))) ≡ views_from z in_session c a (records_in n b)
  unfolding joined views_from records_in
  records_joined zero c a b e = refl
  records_joined (suc n) c a b e =
      let r = take record_size b in
      let t = turn_of c a r in
      let rest = joined (views_from z in_session t.card t.area (records_in n (drop record_size b))) in
      let size : length (view_record z c a r) ≡ record_size = length_view z (marks_in c a r) r ∙ first_record n b e in
      ap₂ {C = List (List ℕ)} (λ x l. x ∷ l) (take_at (view_record z c a r) rest record_size size)
      (ap (records_in n) (drop_at (view_record z c a r) rest record_size size)
      ∙ records_joined n t.card t.area (drop record_size b) (other_records n b e))

  pub veil_session_if : (b : Bool) (x y : Session) → cond b (veil_session z x) (veil_session z y)
      ≡ veil_session z (cond b x y)
  veil_session_if true x y = refl
  veil_session_if false x y = refl

  abbrev ran : Card → List ℕ → List (List ℕ) → Session
  ran c a rs = record { number = 0; run = run_from (start c a) rs }

  session_hidden : (c : Card) (a : List ℕ) (room : ℕ) (b : List ℕ) → eqb (run_of c a room b).number 0 ≡ true
      → run_of (veil z c) a room (joined (views_from z in_session c a (records_in (events_in b) b)))
      ≡ veil_session z (run_of c a room b)
  unfolding run_of
  session_hidden c a room b e =
      let records = records_in (events_in b) b in
      let bytes = joined (views_from z in_session c a records) in
      let whole = eqb (length b % record_size) 0 in
      let size = whole_records b (runs_where (eqb (length a) area_size) (sound c) whole (ltb room (events_in b))
      (no_run 1 c a) (no_run 6 c a) (no_run 3 c a) (no_run 11 c a) (ran c a records) refl refl refl refl e) in
      let length_seen : length bytes ≡ length b = length_joined (events_in b) c a b size ∙ sym size in
      rw (length_seen, veil_sound z c, records_joined (events_in b) c a b size, hides_run z (start c a) records)
      (simp (← veil_session_if))

  session_seen : (c : Card) (a : List ℕ) (room : ℕ) (b : List ℕ) → eqb (run_of c a room b).number 0 ≡ false
      → run_of (veil z c) a room b ≡ veil_session z (run_of c a room b)
  unfolding run_of
  session_seen c a room b e =
      let records = records_in (events_in b) b in
      let whole = eqb (length b % record_size) 0 in
      rw (veil_sound z c)
      (refused_where (eqb (length a) area_size) (sound c) whole (ltb room (events_in b)) (no_run 1 c a) (no_run 6 c a)
      (no_run 3 c a) (no_run 11 c a) (ran c a records)
      (ran (veil z c) a records) (veil_session z (ran c a records)) refl e
      (no_run 1 (veil z c) a) (no_run 6 (veil z c) a) (no_run 3 (veil z c) a) (no_run 11 (veil z c) a)
      ∙ simp (← veil_session_if))

  -- a session's bytes as they may be seen, from the veiled card
  pub hides_session : (c : Card) (a : List ℕ) (room : ℕ) (b : List ℕ)
      → run_of (veil z c) a room (view_of z c a room b) ≡ veil_session z (run_of c a room b)
  unfolding view_of
  hides_session c a room b =
      by_cond (λ (v : List ℕ). run_of (veil z c) a room v ≡ veil_session z (run_of c a room b))
      (eqb (run_of c a room b).number 0)
      (session_hidden c a room b) (session_seen c a room b)

  -- a session's bytes
  pub alike_bytes : (c d : Card) (a : List ℕ) (room : ℕ) (x y : List ℕ) → veil z c ≡ veil z d
      → view_of z c a room x ≡ view_of z d a room y → AlikeCalls z (run_of c a room x) (run_of d a room y)
  alike_bytes c d a room x y cards views =
      alike_calls z (run_of c a room x) (run_of d a room y)
      (sym (hides_session c a room x) ∙ ap₂ (λ (s : Card) (l : List ℕ). run_of s a room l) cards views ∙ hides_session
      d a room y)

-- THE THEOREM, of events that are played one by one
pub secret_plays : (chip : Chip) (a : List ℕ) (room : ℕ) (x y : List (List ℕ))
    → views_from every (one_by_one room) (fresh_card chip) a x ≡ views_from every (one_by_one room) (fresh_card chip) a y
    → (k : ℕ) → AlikeTurns every (turn_at (one_by_one room) (fresh_card chip) a x k)
    (turn_at (one_by_one room) (fresh_card chip) a y k)
secret_plays chip a room x y views k =
    let c = fresh_card chip in
    alike_turns every (turn_at (one_by_one room) c a x k) (turn_at (one_by_one room) c a y k)
    (same_turns every (one_by_one room) (hides_play every room) c c a x y refl views k)

-- THE THEOREM, of a session's bytes
pub secret_session : (chip : Chip) (a : List ℕ) (room : ℕ) (x y : List ℕ)
    → view_of every (fresh_card chip) a room x ≡ view_of every (fresh_card chip) a room y
    → AlikeCalls every (run_of (fresh_card chip) a room x) (run_of (fresh_card chip) a room y)
secret_session chip a room x y views = alike_bytes every (fresh_card chip) (fresh_card chip) a room x y refl views
