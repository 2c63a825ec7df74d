-- Demand 3, "Secrets stay secret", of the calls of document 01. "Two sessions from fresh cards of one chip, equal
-- file areas, alike but for value bytes inside activation, key or PIN groupings that pass all their checks":
-- `Differs`. "Event by event every word, answer, state, table entry, file byte and refusal is the same; the cards
-- differ only in the kept secrets, at those bytes": `AlikeTurns`, `AlikeCalls`. Those bytes: any choice z of them.
use Rattle.std.specs.Prelude.{ℕ, ◌≡◌, List, length, take, drop}
use Rattle.lists.specs.Bytes.{zeros}
use Rattle.model.specs.declared.Card.{Card}
use Rattle.model.specs.Stored.{chip_size, chip_of, fresh_card, area_size, answer_room}
use Rattle.model.specs.Session.{run_of, shown_of, part_shown}
use Rattle.model.specs.Lines.{replay_of}
use Rattle.theorem_secrecy.specs.View.{Hiding, in_session, one_by_one, records_of}
use Rattle.theorem_secrecy.specs.Alike.{AlikeTurns, AlikeCalls, turn_at, Differs}

-- Both sessions begin at card c, in the demand a fresh one, `freshCard chip`: any will do, sound or not.
pub record SecretsStaySecret (z : Hiding) : Type 0 where
  -- an event a call: whatever the area's length, the answer's room and each record's length, so every refusal too
  pub events : (c : Card) (a : List ℕ) (room : ℕ) (x y : List (List ℕ)) → Differs z (one_by_one room) c a x y
      → (k : ℕ) → AlikeTurns z (turn_at (one_by_one room) c a x k) (turn_at (one_by_one room) c a y k)
  -- what is shown of a file's record after event k: its place, and the bytes there
  pub shown : (c : Card) (a : List ℕ) (room : ℕ) (x y : List (List ℕ)) → Differs z (one_by_one room) c a x y
      → (k sfi nn : ℕ)
      → let t = turn_at (one_by_one room) c a x k in
      let u = turn_at (one_by_one room) c a y k in
      let s = shown_of t.card t.area sfi nn in
      let r = shown_of u.card u.area sfi nn in
      (s ≡ r) × (part_shown t.area s ≡ part_shown u.area r)
  -- a session a call: whatever the area's length and the words' room, and torn sessions too
  pub session : (c : Card) (a : List ℕ) (room : ℕ) (x y : List ℕ) → length x ≡ length y
      → Differs z in_session c a (records_of x) (records_of y) → AlikeCalls z (run_of c a room x) (run_of c a room y)
  -- what `replay` prints, whatever the chip record and the torn ends
  pub printed : (x y : List ℕ) → take chip_size x ≡ take chip_size y
      → Differs z (one_by_one answer_room) (fresh_card (chip_of (take chip_size x))) (zeros area_size)
      (records_of (drop chip_size x)) (records_of (drop chip_size y))
      → replay_of x ≡ replay_of y
