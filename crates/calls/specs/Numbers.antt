-- Numbers of more than one byte, the most significant byte first.
use Rattle.std.specs.Prelude.{ℕ, ◌+◌, ◌*◌, ◌/◌, ◌%◌, List, [], ◌∷◌, ◌++◌}
use Rattle.lists.specs.Bytes.{word_at}

-- four bytes as a number, and eight
abbrev pub four_at : List ℕ → ℕ → ℕ
four_at s i = word_at s i * 65536 + word_at s (i + 2)

abbrev pub eight_at : List ℕ → ℕ → ℕ
eight_at s i = four_at s i * 4294967296 + four_at s (i + 4)

-- a number as two bytes, as four, as eight
abbrev pub two_of : ℕ → List ℕ
two_of n = n / 256 ∷ n % 256 ∷ []

abbrev pub four_of : ℕ → List ℕ
four_of n = two_of (n / 65536) ++ two_of (n % 65536)

abbrev pub eight_of : ℕ → List ℕ
eight_of n = four_of (n / 4294967296) ++ four_of (n % 4294967296)
