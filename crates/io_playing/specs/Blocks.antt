-- What a block of a session leaves.
use Rattle.std.specs.Prelude.{ℕ, ◌/◌, ◌≡◌, ◌≤◌, List, length, take}
use Rattle.model.specs.declared.Card.{Card}
use Rattle.register_entries.specs.Entries.{Register, entered_of}

-- card, file area and count are those of a register
pub record Plays (g : Register) (card : Card) (area : List ℕ) (count : ℕ) : Type 0 where
  pub leaves : card ≡ g.card
  pub keeps : area ≡ g.area
  pub counts : count ≡ g.count

-- n bytes of the block were read, and their whole records were played
pub record PlaysBlock (before : ℕ) (c : Card) (a block : List ℕ) (card : Card) (area : List ℕ) (count : ℕ) : Type 0 where
  pub n : ℕ
  pub within : n ≤ length block
  pub played : Plays (entered_of (n / 260) before c a (take n block)) card area count
