-- The place sum of memory.
use Rattle.std.specs.Prelude.{ℕ, ◌+◌, ◌*◌, List, [], ◌∷◌}

-- each byte times its place, where the first's is k
unfoldable pub sum_from : ℕ → List ℕ → ℕ
sum_from k [] = 0
sum_from k (b ∷ bs) = k * b + sum_from (k + 1) bs

-- places are counted from 1
abbrev pub place_sum : List ℕ → ℕ
place_sum s = sum_from 1 s
