-- Runs laid over lent memory end to end, where the second begins at the memory's end if the first fills it.
use Prim.Native.Nat.{ℕ, suc, ◌+◌, ◌≤◌, min}
use mathlib.Core.Path.{◌≡◌, refl, sym, ◌∙◌}
use mathlib.Core.Bool.{Bool, true, false}
use mathlib.Core.List.{List, [], ◌∷◌, ◌++◌}
use native.Mathlib.Omega.{arith}
use lib.Dec.{leb}
use lib.ListN.{length}
use lib.Seq.{set_out}
use borrow.Author.Tests.{leb-true, leb-false}
use Rattle.lists.specs.Over.{overwrite, over_append, length_over}

-- nothing is laid behind the end
pub over_past : (xs a : List ℕ) (i : ℕ) → length a ≤ i → overwrite a i xs ≡ a
unfolding overwrite
over_past [] a i h = refl
over_past (x ∷ xs) a i h = rw (set_out a i x h) (over_past xs a (suc i) (omega arith))

module _ (xs ys a : List ℕ) (i : ℕ) where
  fits : (b : Bool) → leb (i + length xs) (length a) ≡ b
      → overwrite (overwrite a i xs) (min (i + length xs) (length a)) ys ≡ overwrite a i (xs ++ ys)
  fits true e =
      let h = leb-true (i + length xs) (length a) e in
      let m : min (i + length xs) (length a) ≡ i + length xs = omega arith in
      rw (m, over_append xs ys a i)
  fits false e =
      let h = leb-false (i + length xs) (length a) e in
      let m : min (i + length xs) (length a) ≡ length a = omega arith in
      let n = length_over xs a i in
      rw (m, over_append xs ys a i)
      (over_past ys (overwrite a i xs) (length a) (omega arith)
      ∙ sym (over_past ys (overwrite a i xs) (i + length xs) (omega arith)))

  pub over_room : overwrite (overwrite a i xs) (min (i + length xs) (length a)) ys ≡ overwrite a i (xs ++ ys)
  over_room = fits (leb (i + length xs) (length a)) refl
