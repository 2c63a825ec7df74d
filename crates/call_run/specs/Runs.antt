-- What the answer of a session says.
use Rattle.std.specs.Prelude.{ℕ, ◌/◌, ◌%◌, ◌≤◌, ◌≡◌, true, List, [], length}
use Rattle.lists.specs.Over.{overwrite}
use Rattle.model.specs.declared.Card.{Card}
use Rattle.model.specs.declared.Ran.{Ran}
use Rattle.model.specs.Stored.{area_size, record_size}
use Rattle.model.specs.Sound.{sound}
use Rattle.model.specs.Session.{Run, Session, run_from, records_in, no_run, run_of}

-- a session that begins on a card
abbrev pub begun : Card → List ℕ → Run
begun c a = record { words = []; card = c; area = a }

-- the first n records of a session's bytes, one after the other
abbrev pub ran_of : ℕ → Card → List ℕ → List ℕ → Run
ran_of n c a bytes = run_from (begun c a) (records_in n bytes)

-- card, file area and every word of the lent list are those of a run
pub record Leaves (w : Run) (card : Card) (area before after : List ℕ) : Type 0 where
  pub leaves : card ≡ w.card
  pub keeps : area ≡ w.area
  pub writes : after ≡ overwrite before 0 w.words

-- number, number of words, card, file area and every word of the lent list are those of a session
pub record Runs (s : Session) (r : Ran) (area before after : List ℕ) : Type 0 where
  pub numbers : r.number ≡ s.number
  pub counts : r.count ≡ length s.run.words
  pub leaves : r.card ≡ s.run.card
  pub keeps : area ≡ s.run.area
  pub writes : after ≡ overwrite before 0 s.run.words

-- what the checks ask: n, m and k are the sizes of the file area, of the session's bytes and of the lent list of words
pub record Allowed (c : Card) (n m k : ℕ) : Type 0 where
  pub area : n ≡ area_size
  pub sound : sound c ≡ true
  pub files : length c.loading.files ≡ 31
  pub whole : m % record_size ≡ 0
  pub room : m / record_size ≤ k

-- the number that the checks tell: 0 where all is as they ask, else the session's own
abbrev pub Checked : ℕ → Card → ℕ → ℕ → ℕ → Type 0
Checked r c n m k =
    (r ≡ 0 → Allowed c n m k)
    × ((r ≡ 0 → ⊥) → (a b : List ℕ) → length a ≡ n → length b ≡ m → run_of c a k b ≡ no_run r c a)
