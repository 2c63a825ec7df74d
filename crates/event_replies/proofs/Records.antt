-- Records end to end, one more each time: for every loop that plays them.
use Prim.Native.Nat.{ℕ, zero, suc, ◌+◌, ◌*◌}
use mathlib.Core.Path.{◌≡◌, refl, ap, ◌∙◌}
use mathlib.Core.List.{List, [], ◌∷◌, ◌++◌}
use native.Mathlib.Numerals.{add-one}
use native.Mathlib.Omega.{arith}
use lib.ListN.{take, drop}
use lib.Seq.{drop-drop}
use Rattle.lists.specs.Bytes.{part}
use Rattle.model.specs.Session.{records_in}

-- record n follows the n before it
records_suc : (n : ℕ) (b : List ℕ) → records_in (suc n) b ≡ records_in n b ++ (part b (n * 260) 260 ∷ [])
unfolding records_in
records_suc zero b = refl
records_suc (suc n) b =
    ap (λ (l : List (List ℕ)). take 260 b ∷ l) (records_suc n (drop 260 b) ∙ rw
    (drop-drop (n * 260) 260 b, next) refl)
  where
    next : 260 + n * 260 ≡ suc n * 260
    next = omega arith

pub records_more : (n : ℕ) (b : List ℕ) → records_in (n + 1) b ≡ records_in n b ++ (part b (n * 260) 260 ∷ [])
records_more n b = rw add-one (records_suc n b)
