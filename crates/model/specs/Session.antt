-- The calls on a card: a fresh card, one event, a session, a shown record; and the "numbers that a call returns",
-- each call's in its written order. "None of them changes lent memory."
use Rattle.std.specs.Prelude.{ℕ, zero, suc, ◌/◌, ◌%◌, cond, not, List, [], ◌∷◌, ◌++◌, eqb, ltb, length, take, drop}
use Rattle.lists.specs.Bytes.{byte_at, part, zeros}
use Rattle.model.specs.declared.Card.{Card}
use Rattle.model.specs.declared.Made.{Made}
use Rattle.model.specs.declared.Shown.{Shown}
use Rattle.model.specs.declared.Spot.{Spot}
use Rattle.model.specs.declared.Spot.TheVariants.{Nowhere, At}
use Rattle.model.specs.Stored.{chip_size, chip_of, chip_form, fresh_card, record_size, event_in, is_kind, padded_zero}
use Rattle.model.specs.Stored.{area_size, answer_room}
use Rattle.model.specs.Table.{spot_of}
use Rattle.model.specs.Loads.{file_list}
use Rattle.model.specs.Events.{Reply, event}
use Rattle.model.specs.Sound.{sound}

-- "7: chip record not 40 bytes, or its last three not zero: the fresh card of 40 zero bytes"
unfoldable pub fresh_of : List ℕ → Made
fresh_of b =
    cond (chip_form b) (record { number = 0; card = fresh_card (chip_of b) })
    (record { number = 7; card = fresh_card (chip_of (zeros chip_size)) })

-- What one event comes to: the number of its refusal, else 0 and the event's reply.
pub record Turn : Type 0 where
  pub number : ℕ
  pub word : ℕ
  pub answer : List ℕ
  pub card : Card
  pub area : List ℕ

-- "state as given, word '0000'"; no answer bytes
abbrev pub refused_by : ℕ → Card → List ℕ → Turn
refused_by n c a = record { number = n; word = 0x0000; answer = []; card = c; area = a }

abbrev pub replied : Reply → Turn
replied r = record { number = 0; word = r.word; answer = r.answer; card = r.card; area = r.area }

-- "4: kind not 1 to 8"; "5: a byte that must be zero isn't": such a record is no event
unfoldable pub turn_of : Card → List ℕ → List ℕ → Turn
turn_of c a r =
    cond (not (is_kind (byte_at r 0))) (refused_by 4 c a)
    (cond (not (padded_zero r)) (refused_by 5 c a)
    (replied (event (event_in r) c a)))

-- "Order: one event 1, 2, 6, 3, 4, 5"; room is the answer buffer's
unfoldable pub play_of : Card → List ℕ → ℕ → List ℕ → Turn
play_of c a room r =
    cond (not (eqb (length a) area_size)) (refused_by 1 c a)
    (cond (ltb room answer_room) (refused_by 2 c a)
    (cond (not (sound c)) (refused_by 6 c a)
    (cond (not (eqb (length r) record_size)) (refused_by 3 c a)
    (turn_of c a r))))

-- the n records that bytes hold, end to end
unfoldable pub records_in : ℕ → List ℕ → List (List ℕ)
records_in zero b = []
records_in (suc n) b = take record_size b ∷ records_in n (drop record_size b)

-- A session on its way: the words so far, the card, the file area.
pub record Run : Type 0 where
  pub words : List ℕ
  pub card : Card
  pub area : List ℕ

-- "A record refused by 4 or 5 gets '0000' and the run goes on."
abbrev pub turned : Run → Turn → Run
turned w t = record { words = w.words ++ (t.word ∷ []); card = t.card; area = t.area }

unfoldable pub after : Run → List ℕ → Run
after w r = turned w (turn_of w.card w.area r)

unfoldable pub run_from : Run → List (List ℕ) → Run
run_from w [] = w
run_from w (r ∷ rs) = run_from (after w r) rs

pub record Session : Type 0 where
  pub number : ℕ
  pub run : Run

-- "On any refusal a session run returns the state as given and 0 records"
abbrev pub no_run : ℕ → Card → List ℕ → Session
no_run n c a = record { number = n; run = record { words = []; card = c; area = a } }

abbrev pub events_in : List ℕ → ℕ
events_in bytes = length bytes / record_size

-- "session 1, 6, 3, 11"; room is that of the lent list of words
unfoldable pub run_of : Card → List ℕ → ℕ → List ℕ → Session
run_of c a room bytes =
    cond (not (eqb (length a) area_size)) (no_run 1 c a)
    (cond (not (sound c)) (no_run 6 c a)
    (cond (not (eqb (length bytes % record_size) 0)) (no_run 3 c a)
    (cond (ltb room (events_in bytes)) (no_run 11 c a)
    (record {
      number = 0;
      run = run_from (record { words = []; card = c; area = a })
          (records_in (events_in bytes) bytes);
    }))))

-- "an empty part"
abbrev pub unshown : ℕ → Shown
unshown n = record { number = n; start = 0; len = 0 }

-- "a file's record, shown as the part of the file area where it is stored (a binary file whole, record 0)"; "8: SFI 0,
-- no such SFI or record, or no stored bytes"
abbrev pub shown_at : Spot → Shown
shown_at Nowhere = unshown 8
shown_at (At base size) = record { number = 0; start = base; len = size }

-- "shown record 1, 6, 8"
unfoldable pub shown_of : Card → List ℕ → ℕ → ℕ → Shown
shown_of c a sfi nn =
    cond (not (eqb (length a) area_size)) (unshown 1)
    (cond (not (sound c)) (unshown 6)
    (shown_at (spot_of (file_list c.loading) sfi nn)))

-- that part of the file area
abbrev pub part_shown : List ℕ → Shown → List ℕ
part_shown a s = part a s.start s.len
