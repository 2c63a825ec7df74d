-- Two digits between pairs, told by a table of the digits' values.
use Rattle.std.specs.Prelude.{ℕ, zero, suc, ◌+◌, ◌*◌, ◌%◌, ◌<◌, ◌≡◌, refl, List, [], ◌∷◌, get_or, Option, None, Some}
use Rattle.std.proofs.Common.{add-zero, add-suc, suc-add, arith}
use Rattle.job_text.specs.declared.Sort.{Sort}
use Rattle.job_text.specs.declared.Sort.TheVariants.{Digit, Blank, Break, Hash, Other}
use Rattle.job_text.specs.declared.Mode.{Mode}
use Rattle.job_text.specs.declared.Mode.TheVariants.{Between}
use Rattle.job_text.specs.Characters.{sort_of}

-- A digit's value, and 0x10 for what is none.
abbrev pub value_in : Sort → ℕ
value_in (Digit d) = d
value_in Blank = 0x10
value_in Break = 0x10
value_in Hash = 0x10
value_in Other = 0x10

abbrev pub value_of : ℕ → ℕ
value_of x = value_in (sort_of x)

-- The values of so many characters, from one on.
unfoldable pub values_from : ℕ → ℕ → List ℕ
values_from x zero = []
values_from x (suc n) = value_of x ∷ values_from (suc x) n

pub value_at : (n x i : ℕ) → i < n → get_or (values_from x n) i 0 ≡ value_of (x + i)
unfolding values_from
value_at zero x i h = absurd (omega arith)
value_at (suc n) x zero h = rw add-zero
value_at (suc n) x (suc i) h = rw (add-suc, ← suc-add) (value_at n (suc x) i (omega arith))

pub digit_in : (s : Sort) → value_in s < 0x10 → s ≡ Digit (value_in s)
digit_in (Digit d) h = refl
digit_in Blank h = absurd (omega arith)
digit_in Break h = absurd (omega arith)
digit_in Hash h = absurd (omega arith)
digit_in Other h = absurd (omega arith)

-- Between pairs stand two digits, and this is their byte.
pub record Pair (mode : Mode) (x y b : ℕ) : Type 0 where
  pub between : mode ≡ Between
  pub high : sort_of x ≡ Digit (value_of x)
  pub low : sort_of y ≡ Digit (value_of y)
  pub byte : b ≡ value_of x % 16 * 16 + value_of y % 16

-- So it is where a byte is given.
abbrev pub PairIn : Mode → ℕ → ℕ → Option ℕ → Type 0
PairIn mode x y None = Unit
PairIn mode x y (Some b) = Pair mode x y b
