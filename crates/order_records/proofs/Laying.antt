-- Records laid over lent room, one behind another.
use Prim.Native.Nat.{ℕ, ◌+◌, ◌-◌, ◌≤◌}
use mathlib.Core.Path.{◌≡◌, refl, sym, ◌∙◌}
use mathlib.Core.List.{List, [], ◌∷◌, ◌++◌, append-nil}
use native.Mathlib.Omega.{arith}
use lib.ListN.{length, take, drop, length-drop, length-replicate, drop_of_length-le}
use lib.Seq.{length-take-le}
use Rattle.lists.specs.Bytes.{part, zeros}
use Rattle.lists.specs.Over.{overwrite, length_over, over_then, over_zero, over_mid}
use Rattle.model.specs.Stored.{record_size, data_room, record_of}
use Rattle.model.specs.Order.{stored}

-- zeros over a part, back in its place
zeros_mid : (b z : List ℕ) (n k : ℕ) → n + k ≤ length b → z ≡ zeros (length (part b n k))
    → take n b ++ (z ++ drop k (drop n b)) ≡ overwrite b n (zeros k)
zeros_mid b z n k h e =
    let l : length (part b n k) ≡ k = length-take-le k (drop n b) (rw length-drop (omega arith)) in
    let m : length (zeros k) ≡ k = length-replicate k 0 in
    let f : overwrite (part b n k) 0 (zeros k) ≡ zeros k =
    over_zero (zeros k) (part b n k) (omega arith)
    ∙ rw (drop_of_length-le (part b n k) {i = length (zeros k)} (omega arith)) (append-nil (zeros k)) in
    rw (e, l) (rw f at (over_mid b (zeros k) n k (omega arith) h))

-- a record's data ends where the record does, or before
pub data_within : (to n : ℕ) → n ≤ data_room → to + 4 + n ≤ to + record_size
data_within to n h = omega arith

-- a record's four bytes, its data, and zeros up to its end
pub record_laid : (a b d z bytes : List ℕ) (to p1 : ℕ) → length bytes ≤ data_room → to + record_size ≤ length a
    → b ≡ overwrite a to (2 ∷ p1 ∷ 0 ∷ length bytes ∷ []) → d ≡ overwrite b (to + 4) bytes
    → z ≡ zeros (length (part d (to + 4 + length bytes) (to + 260 - (to + 4 + length bytes))))
    → take (to + 4 + length bytes) d ++ (z ++ drop (to + 260 - (to + 4 + length bytes))
    (drop (to + 4 + length bytes) d))
    ≡ overwrite a to (stored p1 bytes)
unfolding record_of
record_laid a b d z bytes to p1 h g p q r =
    let n = to + 4 + length bytes in
    let k = to + 260 - n in
    let e : k ≡ 256 - length bytes = omega arith in
    let s : length d ≡ length a = rw (q, length_over, p, length_over) in
    let f : List ℕ = 2 ∷ p1 ∷ 0 ∷ length bytes ∷ [] in
    zeros_mid d z n k (omega arith) r
    ∙ rw (q, p, e)
    (sym (over_then f (bytes ++ zeros (256 - length bytes)) a to (to + 4) refl
    ∙ over_then bytes (zeros (256 - length bytes)) (overwrite a to f) (to + 4) n refl))
