-- Demand 1 over the definition: each call's number is one of document 01's, and a refusal leaves all as it was.
use Prim.Native.Nat.{ℕ, ◌*◌, ◌%◌, ◌≤◌}
use mathlib.Core.Path.{◌≡◌, refl}
use mathlib.Core.Bool.{not}
use mathlib.Core.List.{List, []}
use native.Mathlib.Omega.{arith}
use lib.Dec.{eqb, ltb, lit≤}
use lib.ListN.{length}
use Rattle.lists.specs.Choice.{by_cond}
use Rattle.lists.specs.Bytes.{byte_at, zeros}
use Rattle.model.specs.declared.Card.{Card}
use Rattle.model.specs.declared.Made.{Made}
use Rattle.model.specs.declared.Shown.{Shown}
use Rattle.model.specs.declared.Spot.{Spot}
use Rattle.model.specs.declared.Spot.TheVariants.{Nowhere, At}
use Rattle.model.specs.Stored.{chip_size, chip_of, chip_form, fresh_card, record_size, event_in, is_kind, padded_zero}
use Rattle.model.specs.Stored.{area_size, answer_room}
use Rattle.model.specs.Table.{spot_of}
use Rattle.model.specs.Loads.{file_list}
use Rattle.model.specs.Events.{event}
use Rattle.model.specs.Sound.{sound}
use Rattle.model.specs.Session.{fresh_of, Turn, refused_by, replied, turn_of, play_of, Session, no_run, events_in, run_of}
use Rattle.model.specs.Session.{unshown, shown_at, shown_of}
use Rattle.model.specs.Order.{order_limit, complete, records_for, Writing, no_writing, write_of}

abbrev pub Refused : ℕ → Type 0
Refused n = n ≡ 0 → ⊥

-- one event
abbrev Told : Card → List ℕ → Turn → Type 0
Told c a t = (t.number ≤ 11) × (Refused t.number → t ≡ refused_by t.number c a)

refused_turn : (n : ℕ) (c : Card) (a : List ℕ) → n ≤ 11 → Told c a (refused_by n c a)
refused_turn n c a l = (l, λ h. refl)

told_turn : (c : Card) (a r : List ℕ) → Told c a (turn_of c a r)
unfolding turn_of
told_turn c a r =
    by_cond (Told c a) (not (is_kind (byte_at r 0))) (λ e. refused_turn 4 c a (lit≤ tt))
    (λ e. by_cond (Told c a) (not (padded_zero r)) (λ f. refused_turn 5 c a (lit≤ tt))
    (λ f. (lit≤ tt, λ h. absurd (h refl))))

pub told_play : (c : Card) (a : List ℕ) (room : ℕ) (r : List ℕ) → Told c a (play_of c a room r)
unfolding play_of
told_play c a room r =
    by_cond (Told c a) (not (eqb (length a) area_size)) (λ e. refused_turn 1 c a (lit≤ tt))
    (λ e. by_cond (Told c a) (ltb room answer_room) (λ f. refused_turn 2 c a (lit≤ tt))
    (λ f. by_cond (Told c a) (not (sound c)) (λ g. refused_turn 6 c a (lit≤ tt))
    (λ g. by_cond (Told c a) (not (eqb (length r) record_size)) (λ h. refused_turn 3 c a (lit≤ tt))
    (λ h. told_turn c a r))))

-- an event that is not refused is the definition's
abbrev Answered : Card → List ℕ → List ℕ → Turn → Type 0
Answered c a r t = t.number ≡ 0 → t ≡ replied (event (event_in r) c a)

pub answered_turn : (c : Card) (a r : List ℕ) → Answered c a r (turn_of c a r)
unfolding turn_of
answered_turn c a r =
    by_cond (Answered c a r) (not (is_kind (byte_at r 0))) (λ e h. absurd (omega arith))
    (λ e. by_cond (Answered c a r) (not (padded_zero r)) (λ f h. absurd (omega arith)) (λ f h. refl))

pub answered_play : (c : Card) (a : List ℕ) (room : ℕ) (r : List ℕ) → Answered c a r (play_of c a room r)
unfolding play_of
answered_play c a room r =
    by_cond (Answered c a r) (not (eqb (length a) area_size)) (λ e h. absurd (omega arith))
    (λ e. by_cond (Answered c a r) (ltb room answer_room) (λ f h. absurd (omega arith))
    (λ f. by_cond (Answered c a r) (not (sound c)) (λ g h. absurd (omega arith))
    (λ g. by_cond (Answered c a r) (not (eqb (length r) record_size)) (λ k h. absurd (omega arith))
    (λ k. answered_turn c a r))))

-- a session
abbrev Ended : Card → List ℕ → Session → Type 0
Ended c a s = (s.number ≤ 11) × (Refused s.number → s ≡ no_run s.number c a)

refused_run : (n : ℕ) (c : Card) (a : List ℕ) → n ≤ 11 → Ended c a (no_run n c a)
refused_run n c a l = (l, λ h. refl)

pub told_run : (c : Card) (a : List ℕ) (room : ℕ) (b : List ℕ) → Ended c a (run_of c a room b)
unfolding run_of
told_run c a room b =
    by_cond (Ended c a) (not (eqb (length a) area_size)) (λ e. refused_run 1 c a (lit≤ tt))
    (λ e. by_cond (Ended c a) (not (sound c)) (λ f. refused_run 6 c a (lit≤ tt))
    (λ f. by_cond (Ended c a) (not (eqb (length b % record_size) 0)) (λ g. refused_run 3 c a (lit≤ tt))
    (λ g. by_cond (Ended c a) (ltb room (events_in b)) (λ h. refused_run 11 c a (lit≤ tt))
    (λ h. (lit≤ tt, λ k. absurd (k refl))))))

-- a shown record
abbrev Told-shown : Shown → Type 0
Told-shown s = (s.number ≤ 11) × (Refused s.number → s ≡ unshown s.number)

shown_spot : (x : Spot) → Told-shown (shown_at x)
shown_spot Nowhere = (lit≤ tt, λ h. refl)
shown_spot (At base size) = (lit≤ tt, λ h. absurd (h refl))

pub told_shown : (c : Card) (a : List ℕ) (sfi nn : ℕ) → Told-shown (shown_of c a sfi nn)
unfolding shown_of
told_shown c a sfi nn =
    by_cond Told-shown (not (eqb (length a) area_size)) (λ e. (lit≤ tt, λ h. refl))
    (λ e. by_cond Told-shown (not (sound c)) (λ f. (lit≤ tt, λ h. refl))
    (λ f. shown_spot (spot_of (file_list c.loading) sfi nn)))

-- a fresh card
abbrev Told-fresh : Made → Type 0
Told-fresh m = (m.number ≤ 11) × (Refused m.number → m.card ≡ fresh_card (chip_of (zeros chip_size)))

pub told_fresh : (b : List ℕ) → Told-fresh (fresh_of b)
unfolding fresh_of
told_fresh b =
    by_cond Told-fresh (chip_form b) (λ e. (lit≤ tt, λ h. absurd (h refl))) (λ e. (lit≤ tt, λ h. refl))

-- the writer
abbrev Told-writing : Writing → Type 0
Told-writing w = (w.number ≤ 11) × (Refused w.number → w.records ≡ [])

refused_writing : (n : ℕ) → n ≤ 11 → Told-writing (no_writing n)
refused_writing n l = (l, λ h. refl)

pub told_write : (chip order : List ℕ) (room : ℕ) → Told-writing (write_of chip order room)
unfolding write_of
told_write chip order room =
    by_cond Told-writing (not (chip_form chip)) (λ e. refused_writing 7 (lit≤ tt))
    (λ e. by_cond Told-writing (ltb order_limit (length order)) (λ f. refused_writing 9 (lit≤ tt))
    (λ f. by_cond Told-writing (not (complete (chip_of chip).capacity order)) (λ g. refused_writing 10 (lit≤ tt))
    (λ g. by_cond Told-writing (ltb room (length (records_for order) * record_size)) (λ h. refused_writing 11 (lit≤ tt))
    (λ h. (lit≤ tt, λ k. absurd (k refl))))))
