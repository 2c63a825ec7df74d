-- What the answer of a call on a card says.
use Rattle.std.specs.Prelude.{ℕ, ◌≡◌, List, length}
use Rattle.lists.specs.Over.{overwrite}
use Rattle.model.specs.declared.Played.{Played}
use Rattle.model.specs.Session.{Turn}

-- number, word, number of answer bytes, card, file area and every byte of the answer buffer are those of a turn
pub record Plays (t : Turn) (r : Played) (area before after : List ℕ) : Type 0 where
  pub numbers : r.number ≡ t.number
  pub says : r.word ≡ t.word
  pub counts : r.answered ≡ length t.answer
  pub leaves : r.card ≡ t.card
  pub keeps : area ≡ t.area
  pub writes : after ≡ overwrite before 0 t.answer
