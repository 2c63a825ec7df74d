-- What a cut is: its commands are the units end to end, and a command closes only where the next unit does not fit.
use Rattle.std.specs.Prelude.{ℕ, ◌+◌, ◌≤◌, ◌<◌, ◌≡◌, List, [], ◌∷◌, ◌++◌, length}
use Rattle.lists.specs.Joined.{joined}
use Rattle.model.specs.Stored.{data_room}

-- `Packs us cs`: the commands `cs` hold the units `us`, in order, each unit whole in one command; and where a command
-- has another behind it, the first unit of that one does not fit
pub data Packs : List (List ℕ) → List (List ℕ) → Type 0 where
  last : (us : List (List ℕ)) (c : List ℕ) → c ≡ joined us → Packs us (c ∷ [])
  next : (us : List (List ℕ)) (c u : List ℕ) (vs cs : List (List ℕ))
      → c ≡ joined us → data_room < length c + length u → Packs (u ∷ vs) cs → Packs (us ++ (u ∷ vs)) (c ∷ cs)

-- the longest unit of a complete order: a header of five bytes and a secret's 64
abbrev pub longest_unit : ℕ
longest_unit = 69

-- every list has at least `least` bytes and at most `most`
pub data Sized (least most : ℕ) : List (List ℕ) → Type 0 where
  none : Sized least most []
  more : {c : List ℕ} {cs : List (List ℕ)} → least ≤ length c → length c ≤ most → Sized least most cs
      → Sized least most (c ∷ cs)
