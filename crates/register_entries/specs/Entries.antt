-- What records that are played one after the other leave, with a line for each.
use Rattle.std.specs.Prelude.{ℕ, ◌+◌, ◌%◌, ◌≡◌, List, [], ◌∷◌, ◌++◌, length}
use Rattle.lists.specs.Bytes.{byte_at}
use Rattle.lists.specs.Over.{overwrite}
use Rattle.model.specs.declared.Card.{Card}
use Rattle.model.specs.Stored.{record_size}
use Rattle.model.specs.Session.{Turn, turn_of, records_in}
use Rattle.model.specs.Lines.{line_of, end_of}

-- A register on its way: the lines so far, the events so far by their last five digits, the card, the file area.
pub record Register : Type 0 where
  pub lines : List ℕ
  pub count : ℕ
  pub card : Card
  pub area : List ℕ

-- a register that begins after some events
abbrev pub begun : ℕ → Card → List ℕ → Register
begun n c a = record { lines = []; count = n; card = c; area = a }

abbrev pub counted : ℕ → ℕ
counted n = (n + 1) % 100000

-- a line more, of an event of this kind
abbrev pub lined : Register → ℕ → Turn → Register
lined g kind t =
    record {
      lines = g.lines ++ line_of (counted g.count) kind t.number t.word t.card;
      count = counted
          g.count;
      card = t.card;
      area = t.area;
    }

-- one record
unfoldable pub entry : Register → List ℕ → Register
entry g r = lined g (byte_at r 0) (turn_of g.card g.area r)

-- one after the other
unfoldable pub entries : Register → List (List ℕ) → Register
entries g [] = g
entries g (r ∷ rs) = entries (entry g r) rs

-- the first k records of a block's bytes, after n events
abbrev pub entered_of : ℕ → ℕ → Card → List ℕ → List ℕ → Register
entered_of k n c a bytes = entries (begun n c a) (records_in k bytes)

-- a register whose lines stand behind others
abbrev pub behind : List ℕ → Register → Register
behind l g = record { lines = l ++ g.lines; count = g.count; card = g.card; area = g.area }

-- a register's second block, on what its first left
abbrev pub goes_on : Register → List (List ℕ) → Register
goes_on g rs = behind g.lines (entries (begun g.count g.card g.area) rs)

-- its characters, once the input has ended
abbrev pub printed : Register → List ℕ
printed g = g.lines ++ end_of g.count

-- card, file area, count and every byte of the lent lines are those of a register
pub record Enters (g : Register) (card : Card) (area : List ℕ) (count : ℕ) (before after : List ℕ) : Type 0 where
  pub leaves : card ≡ g.card
  pub keeps : area ≡ g.area
  pub counts : count ≡ g.count
  pub writes : after ≡ overwrite before 0 g.lines

-- records of 260 bytes each
pub data Whole : List (List ℕ) → Type 0 where
  none : Whole []
  more : {r : List ℕ} {rs : List (List ℕ)} → length r ≡ record_size → Whole rs → Whole (r ∷ rs)
