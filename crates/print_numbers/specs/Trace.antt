-- Characters that the program `trace` prints beyond those of document 01.
use Rattle.std.specs.Prelude.{ℕ, zero, suc, ◌/◌, ◌%◌, cond, List, [], ◌∷◌, ◌++◌, ltb}
use Rattle.model.specs.Lines.{digit, hex2}

-- bytes in hexadecimal capitals, end to end
unfoldable pub hex_of : List ℕ → List ℕ
hex_of [] = []
hex_of (b ∷ bs) = hex2 b ++ hex_of bs

-- the last w decimal digits of n
unfoldable pub last_digits : ℕ → ℕ → List ℕ
last_digits zero n = []
last_digits (suc w) n = last_digits w (n / 10) ++ digit (n % 10) ∷ []

-- how many decimal digits n has, where it has at most k + 1
unfoldable pub width_with : ℕ → ℕ → ℕ
width_with zero n = 1
width_with (suc k) n = cond (ltb n 10) 1 (suc (width_with k (n / 10)))

-- those of a number of 64 bits
abbrev pub width_of : ℕ → ℕ
width_of n = width_with 19 n

-- a number in decimal, without leading zeros
abbrev pub decimal_of : ℕ → List ℕ
decimal_of n = last_digits (width_of n) n
