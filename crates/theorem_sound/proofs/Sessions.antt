-- A card is sound when fresh, and after every event, every call and every session.
use Prim.Native.Nat.{ℕ, ◌%◌}
use mathlib.Core.Path.{◌≡◌, refl, sym, ◌∙◌}
use mathlib.Core.Bool.{true, not}
use mathlib.Core.List.{List, [], ◌∷◌}
use lib.Dec.{eqb, ltb}
use lib.ListN.{length, length-replicate}
use borrow.Author.Tests.{eqb-true, not-false}
use Rattle.lists.specs.Bytes.{byte_at, zeros}
use Rattle.lists.specs.Choice.{by_cond}
use Rattle.model.specs.declared.Chip.{Chip}
use Rattle.model.specs.declared.Card.{Card}
use Rattle.model.specs.declared.Made.{Made}
use Rattle.model.specs.Stored.{Event, area_size, answer_room, record_size, chip_size, chip_of, chip_form, fresh_card, is_kind}
use Rattle.model.specs.Stored.{event_in, padded_zero}
use Rattle.model.specs.Rows.{taken}
use Rattle.model.specs.Table.{table_limit, table_passes}
use Rattle.model.specs.Sound.{secrets_ok, sound, sound_with}
use Rattle.model.specs.Events.{event}
use Rattle.model.specs.Session.{Turn, Run, Session, fresh_of, turn_of, play_of, after, run_from, records_in, events_in}
use Rattle.model.specs.Session.{run_of}
use Rattle.theorem_sound.specs.Keeps.{Good}
use Rattle.theorem_sound.proofs.Events.{event_good}

-- AN EVENT
pub event_keeps : (e : Event) (c : Card) (a : List ℕ) → sound c ≡ true → length c.loading.files ≡ table_limit
    → length a ≡ area_size
    → (sound (event e c a).card ≡ true) × (length (event e c a).card.loading.files ≡ table_limit)
    × (length (event e c a).area ≡ area_size)
event_keeps e c a s f l =
    let y = event_good e c a (record { sound = s; files = f; area = l }) in
    (y.sound, y.files, y.area)

-- a record, which may be no event
pub turn_keeps : (c : Card) (a r : List ℕ) → Good area_size c a
    → Good area_size (turn_of c a r).card (turn_of c a r).area
unfolding turn_of
turn_keeps c a r y =
    by_cond (λ (t : Turn). Good area_size t.card t.area) (not (is_kind (byte_at r 0))) (λ e. y)
    (λ e. by_cond (λ (t : Turn). Good area_size t.card t.area) (not (padded_zero r)) (λ f. y)
    (λ f. event_good (event_in r) c a y))

-- A CALL OF ONE EVENT, whatever the memory and the record
pub play_keeps : (n : ℕ) (c : Card) (a : List ℕ) (room : ℕ) (r : List ℕ) → Good n c a
    → Good n (play_of c a room r).card (play_of c a room r).area
unfolding play_of
play_keeps n c a room r y =
    by_cond (λ (t : Turn). Good n t.card t.area) (not (eqb (length a) area_size)) (λ e. y)
    (λ e. by_cond (λ (t : Turn). Good n t.card t.area) (ltb room answer_room) (λ f. y)
    (λ f. by_cond (λ (t : Turn). Good n t.card t.area) (not (sound c)) (λ g. y)
    (λ g. by_cond (λ (t : Turn). Good n t.card t.area) (not (eqb (length r) record_size)) (λ h. y)
    (λ h. let l : length a ≡ area_size = eqb-true (length a) area_size (not-false (eqb (length a) area_size) e) in
    let k = turn_keeps c a r (record { sound = y.sound; files = y.files; area = l }) in
    record { sound = k.sound; files = k.files; area = k.area ∙ sym l ∙ y.area }))))

-- A SESSION ON ITS WAY
pub run_keeps : (rs : List (List ℕ)) (w : Run) → Good area_size w.card w.area
    → Good area_size (run_from w rs).card (run_from w rs).area
unfolding run_from after
run_keeps [] w y = y
run_keeps (r ∷ rs) w y = run_keeps rs (after w r) (turn_keeps w.card w.area r y)

-- A CALL OF A SESSION
pub session_keeps : (n : ℕ) (c : Card) (a : List ℕ) (room : ℕ) (bytes : List ℕ) → Good n c a
    → Good n (run_of c a room bytes).run.card (run_of c a room bytes).run.area
unfolding run_of
session_keeps n c a room bytes y =
    by_cond (λ (t : Session). Good n t.run.card t.run.area) (not (eqb (length a) area_size)) (λ e. y)
    (λ e. by_cond (λ (t : Session). Good n t.run.card t.run.area) (not (sound c)) (λ f. y)
    (λ f. by_cond (λ (t : Session). Good n t.run.card t.run.area) (not (eqb (length bytes % record_size) 0))
    (λ g. y)
    (λ g. by_cond (λ (t : Session). Good n t.run.card t.run.area) (ltb room (events_in bytes)) (λ h. y)
    (λ h. let l : length a ≡ area_size = eqb-true (length a) area_size (not-false (eqb (length a) area_size) e) in
    let k = run_keeps (records_in (events_in bytes) bytes) (record { words = []; card = c; area = a })
    (record { sound = y.sound; files = y.files; area = l }) in
    record { sound = k.sound; files = k.files; area = k.area ∙ sym l ∙ y.area }))))

-- A FRESH CARD
fresh_good : (chip : Chip) → Good area_size (fresh_card chip) (zeros area_size)
unfolding fresh_card sound_with table_passes taken secrets_ok
fresh_good chip = record { sound = refl; files = refl; area = length-replicate {A = ℕ} area_size 0 }

pub fresh_sound : (b : List ℕ) → sound (fresh_of b).card ≡ true
unfolding fresh_of
fresh_sound b =
    by_cond (λ (m : Made). sound m.card ≡ true) (chip_form b) (λ e. (fresh_good (chip_of b)).sound)
    (λ e. (fresh_good (chip_of (zeros chip_size))).sound)

-- with a file area of zeros
pub fresh_keeps : (b : List ℕ) → Good area_size (fresh_of b).card (zeros area_size)
unfolding fresh_of
fresh_keeps b =
    by_cond (λ (m : Made). Good area_size m.card (zeros area_size)) (chip_form b) (λ e. fresh_good (chip_of b))
    (λ e. fresh_good (chip_of (zeros chip_size)))
