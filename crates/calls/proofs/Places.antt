-- Place sums, byte by byte.
use Rattle.std.proofs.Common.{◌≡◌, ℕ, ◌+◌, ◌*◌, ◌<◌, ◌≤◌, List, length, get_or, drop, zero-add, add-one, drop_of_length-le, drop-cons}
use Rattle.calls.specs.Sums.{sum_from, place_sum}

-- all of it is behind the start
pub sum_first : (s : List ℕ) → place_sum s ≡ 0 + sum_from 1 s
sum_first s = rw zero-add

-- the byte at i, and what is behind it
pub sum_more : (s : List ℕ) (i : ℕ) → i < length s
    → sum_from (i + 1) (drop i s) ≡ (i + 1) * get_or s i 0 + sum_from (i + 1 + 1) (drop (i + 1) s)
unfolding sum_from
sum_more s i h = rw (add-one i, drop-cons s i 0 h)

-- nothing is behind the last
pub sum_end : (s : List ℕ) (i k : ℕ) → length s ≤ i → sum_from k (drop i s) ≡ 0
unfolding sum_from
sum_end s i k h = rw (drop_of_length-le s h)
