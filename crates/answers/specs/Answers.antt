-- An answer in a lent buffer.
use Rattle.std.specs.Prelude.{ℕ, ◌+◌, ◌≡◌, refl, List, ◌∷◌, length, take}
use Rattle.std.proofs.Common.{sym}
use Rattle.lists.specs.Over.{overwrite, over_none}
use Rattle.model.specs.declared.Life.{Life}
use Rattle.model.specs.declared.Card.{Card}
use Rattle.model.specs.Events.{Reply, says, gives}

-- a word, a number of answer bytes, a card and a file area are those of a reply, and its bytes stand at the buffer's
-- front, all else of which stays
pub record Answers (x : Reply) (word count : ℕ) (c : Card) (area before after : List ℕ) : Type 0 where
  pub says : word ≡ x.word
  pub counts : count ≡ length x.answer
  pub leaves : c ≡ x.card
  pub keeps : area ≡ x.area
  pub writes : after ≡ overwrite before 0 x.answer

-- Laws: a reply that leaves the buffer alone, and one whose bytes are laid at its front.
pub said : (w : ℕ) (c : Card) (a buffer : List ℕ) → Answers (says w c a) w 0 c a buffer buffer
said w c a buffer = record {
  says = refl;
  counts = refl;
  leaves = refl;
  keeps = refl;
  writes = sym
      (over_none buffer 0);
}

pub gave : (w : ℕ) (answer : List ℕ) (c : Card) (a : List ℕ) {n : ℕ} {before after : List ℕ} → n ≡ length answer
    → after ≡ overwrite before 0 answer
    → Answers (gives w answer c a) w n c a before after
gave w answer c a e f = record { says = refl; counts = e; leaves = refl; keeps = refl; writes = f }

-- what both FCIs begin with: 6F, a length, 84 n name
abbrev pub front : ℕ → Life → List ℕ
front more f = 0x6F ∷ (f.namelen + more) ∷ 0x84 ∷ f.namelen ∷ take f.namelen f.name
