-- How a stored session is written down here: 48 bytes as one number, a record without the zeros behind its data.
use Prim.Native.Nat.{ℕ, zero, suc, ◌+◌, ◌-◌, ◌/◌, ◌%◌, min}
use Prim.Native.Char.{code}
use Prim.Native.String.{String, [] as []ˢ, ◌∷◌ as ◌∷ˢ◌}
use mathlib.Core.List.{List, [], ◌∷◌, ◌++◌}
use Rattle.lists.specs.Bytes.{zeros}
use Rattle.lists.specs.Joined.{joined}
use Rattle.model.specs.Stored.{data_room}

abbrev pub Bytes : Type 0
Bytes = List ℕ

-- the last n bytes of a number, the most significant first
unfoldable pub wide_or : ℕ → ℕ → Bytes → Bytes
wide_or zero x later = later
wide_or (suc n) x later = wide_or n (x / 256) (x % 256 ∷ later)

abbrev pub chipped : ℕ → Bytes
chipped x = wide_or 40 x []

-- n bytes, 48 in each number but the last
unfoldable pub wide : ℕ → List ℕ → Bytes
wide n [] = []
wide n (x ∷ xs) = wide_or (min n 48) x (wide (n - 48) xs)

-- a record of any bytes behind its length: m of them, and zeros
unfoldable pub unpadded : ℕ → ℕ → ℕ → ℕ → ℕ → List ℕ → Bytes
unpadded kind p1 p2 n m bytes = kind ∷ p1 ∷ p2 ∷ n ∷ wide m bytes ++ zeros (data_room + 1 - m)

-- kind, P1, P2, the length, the data, and zeros to the record's end
abbrev pub stored : ℕ → ℕ → ℕ → ℕ → List ℕ → Bytes
stored kind p1 p2 n bytes = unpadded kind p1 p2 n n bytes

unfoldable pub session : Bytes → List Bytes → Bytes
session chip records = chip ++ joined records

-- text, character by character
unfoldable pub codes_or : String → Bytes → Bytes
codes_or []ˢ later = later
codes_or (c ∷ˢ s) later = code c ∷ codes_or s later

unfoldable pub lines : List String → Bytes
lines [] = []
lines (s ∷ ss) = codes_or s (lines ss)

-- what these open, named once
unfoldable pub opened : Unit {0}
unfolding wide_or wide unpadded session codes_or lines joined
opened = tt
