-- As much of a list as there is: the smaller of a count and its length.
use Rattle.std.specs.Prelude.{ℕ, zero, suc, ◌+◌, ◌-◌, min, ◌≡◌, List, [], ◌∷◌, length, take, drop}
use Rattle.std.proofs.Common.{ap, arith, length-drop, length-take, drop-drop}
use Rattle.lists.specs.Bytes.{part}

pub drop_least : (m : ℕ) (l : List ℕ) → drop (min m (length l)) l ≡ drop m l
drop_least zero l = let e : min 0 (length l) ≡ 0 = omega arith in rw e
drop_least (suc m) [] = let e : min (suc m) 0 ≡ 0 = omega arith in rw e
drop_least (suc m) (x ∷ l) = let e : min (suc m) (suc (length l)) ≡ suc (min m (length l)) =
    omega arith in rw e (drop_least m l)

pub take_least : (m : ℕ) (l : List ℕ) → take (min m (length l)) l ≡ take m l
take_least zero l = let e : min 0 (length l) ≡ 0 = omega arith in rw e
take_least (suc m) [] = let e : min (suc m) 0 ≡ 0 = omega arith in rw e
take_least (suc m) (x ∷ l) =
    let e : min (suc m) (suc (length l)) ≡ suc (min m (length l)) = omega arith in
    rw e (ap (λ (t : List ℕ). x ∷ t) (take_least m l))

-- of what lies behind a place
module _ (d : List ℕ) (at m : ℕ) where
  pub rest_least : drop (at + min m (length d - at)) d ≡ drop m (drop at d)
  rest_least = rw (← length-drop at d, ← drop-drop (min m (length (drop at d))) at d) (drop_least m (drop at d))

  pub part_least : part d at (min m (length d - at)) ≡ take m (drop at d)
  part_least = rw (← length-drop at d) (take_least m (drop at d))

  pub length_least : length (take m (drop at d)) ≡ min m (length d - at)
  length_least = rw (length-take, length-drop)
