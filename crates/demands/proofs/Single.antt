-- EACH CALL HAS ONE RESULT: two results that a call's contract allows are equal, for both are the definition's.
use Prim.Native.Nat.{ℕ}
use mathlib.Core.Path.{◌≡◌, sym, ◌∙◌}
use mathlib.Core.List.{List}
use Rattle.model.specs.declared.Card.{Card}
use Rattle.model.specs.declared.Played.{Played}
use Rattle.model.specs.declared.Ran.{Ran}
use Rattle.model.specs.Rows.{taken_of}
use Rattle.model.specs.declared.Shown.{Shown}
use Rattle.model.specs.Session.{Turn, Session, shown_of, part_shown}
use Rattle.order_reader.specs.declared.Reader.{Reader}
use Rattle.order_reader.specs.declared.Drawn.{Drawn}
use Rattle.order_reader.specs.Reads.{found_at, value_of}
use Rattle.event_replies.specs.Plays.{Plays}
use Rattle.call_run.specs.Runs.{Runs}

-- one event: the answer, the file area and the answer buffer
pub play_single : (t : Turn) (before : List ℕ) (r r' : Played) (area area' after after' : List ℕ)
    → Plays t r area before after → Plays t r' area' before after' → (r ≡ r') × (area ≡ area') × (after ≡ after')
play_single t before r r' area area' after after' p q = (
  rw (p.numbers, p.says, p.counts, p.leaves, q.numbers, q.says, q.counts, q.leaves),
  p.keeps ∙ sym q.keeps,
  p.writes ∙ sym q.writes,
)

-- a session: the answer, the file area and the lent list of words
pub run_single : (s : Session) (before : List ℕ) (r r' : Ran) (area area' after after' : List ℕ)
    → Runs s r area before after → Runs s r' area' before after' → (r ≡ r') × (area ≡ area') × (after ≡ after')
run_single s before r r' area area' after after' p q = (
  rw (p.numbers, p.counts, p.leaves, q.numbers, q.counts, q.leaves),
  p.keeps ∙ sym q.keeps,
  p.writes ∙ sym q.writes,
)

-- a shown record: the number, the place and the length; and then its part
pub shown_single : (c : Card) (a : List ℕ) (sfi nn : ℕ) (s s' : Shown) → s ≡ shown_of c a sfi nn
    → s' ≡ shown_of c a sfi nn → s ≡ s'
shown_single c a sfi nn s s' p q = p ∙ sym q

pub part_single : (a : List ℕ) (s : Shown) (bytes bytes' : List ℕ) → bytes ≡ part_shown a s → bytes' ≡ part_shown a s
    → bytes ≡ bytes'
part_single a s bytes bytes' p q = p ∙ sym q

-- a pull: what was found and where, the value's bytes, the reader of the rest
abbrev Pulls : Reader → Drawn → Type 0
Pulls r p =
    (p.found ≡ found_at r.order.now r.at)
    × (p.value.now ≡ value_of r.order.now (found_at r.order.now r.at))
    × (p.rest.order ≡ r.order) × (p.rest.at ≡ (found_at r.order.now r.at).next)

pub pull_single : (r : Reader) (p p' : Drawn) → Pulls r p → Pulls r p'
    → (p.found ≡ p'.found) × (p.value.now ≡ p'.value.now) × (p.rest ≡ p'.rest)
pull_single r p p' x y = (x.0 ∙ sym y.0, x.1 ∙ sym y.1, rw (x.2, x.3, y.2, y.3))

-- the number of rows
pub taken_single : (c : Card) (n n' : ℕ) → n ≡ taken_of c.loading.running.rows
    → n' ≡ taken_of c.loading.running.rows → n ≡ n'
taken_single c n n' p q = p ∙ sym q
