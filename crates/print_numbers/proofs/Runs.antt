-- Characters stored one after another, said as runs laid over the memory.
use Prim.Native.Nat.{ℕ, ◌+◌, ◌/◌, ◌%◌}
use mathlib.Core.Path.{◌≡◌, refl, sym, ◌∙◌}
use mathlib.Core.List.{List, [], ◌∷◌, ◌++◌}
use native.Mathlib.Omega.{arith}
use native.Mathlib.Numerals.{add-one}
use lib.ListN.{length, set, length-append}
use Rattle.lists.specs.Over.{overwrite, over_then, over_one}
use Rattle.model.specs.Lines.{two}

-- a character behind a run, and a run behind a run; the place is the caller's to say
pub run_one : (a xs : List ℕ) (i j x : ℕ) → i + length xs ≡ j
    → set (overwrite a i xs) j x ≡ overwrite a i (xs ++ x ∷ [])
run_one a xs i j x e = sym (over_then xs (x ∷ []) a i j e ∙ over_one (overwrite a i xs) j x)

pub run_more : (a xs ys : List ℕ) (i j : ℕ) → i + length xs ≡ j
    → overwrite (overwrite a i xs) j ys ≡ overwrite a i (xs ++ ys)
run_more a xs ys i j e = sym (over_then xs ys a i j e)

pub run_two : (a : List ℕ) (i x y : ℕ) → set (set a i x) (i + 1) y ≡ overwrite a i (x ∷ y ∷ [])
unfolding overwrite
run_two a i x y = rw add-one

-- the last two digits are those of the last two
pub last_two : (n : ℕ) → two (n % 100) ≡ two n
last_two n =
    let e : n % 100 / 10 % 10 ≡ n / 10 % 10 = omega arith in
    let f : n % 100 % 10 ≡ n % 10 = omega arith in
    rw (e, f)

pub run_five : (a : List ℕ) (i x y z n : ℕ) → overwrite (set (set (set a i x) (i + 1) y) (i + 2) z) (i + 3)
    (two (n % 100)) ≡ overwrite a i (x ∷ y ∷ z ∷ two n)
run_five a i x y z n =
    rw (last_two n, run_two a i x y, run_one a (x ∷ y ∷ []) i (i + 2) z refl)
    (run_more a (x ∷ y ∷ z ∷ []) (two n) i (i + 3) refl)

-- three fields, a character behind each
module _ (a xs ys zs : List ℕ) (i p q r s t x y z : ℕ)
    (ep : i + length xs ≡ p) (eq : p + 1 ≡ q) (er : q + length ys ≡ r) (es : r + 1 ≡ s) (et : s + length zs ≡ t) where
  pub run_fields : set (overwrite (set (overwrite (set (overwrite a i xs) p x) q ys) r y) s zs) t z
      ≡ overwrite a i (((((xs ++ x ∷ []) ++ ys) ++ y ∷ []) ++ zs) ++ z ∷ [])
  run_fields =
      rw (run_one a xs i p x ep, run_more a (xs ++ x ∷ []) ys i q (simp length-append (omega arith)))
      (rw (
        run_one a ((xs ++ x ∷ []) ++ ys) i r y (simp length-append (omega arith)),
        run_more a (((xs ++ x ∷ []) ++ ys) ++ y ∷ []) zs i s (simp length-append (omega arith)),
      )
      (run_one a ((((xs ++ x ∷ []) ++ ys) ++ y ∷ []) ++ zs) i t z (simp length-append (omega arith))))

-- two runs, and three, with a character behind them
pub run_end : (a xs ys : List ℕ) (i p q x : ℕ) → i + length xs ≡ p → p + length ys ≡ q
    → set (overwrite (overwrite a i xs) p ys) q x ≡ overwrite a i ((xs ++ ys) ++ x ∷ [])
run_end a xs ys i p q x ep eq =
    rw (run_more a xs ys i p ep) (run_one a (xs ++ ys) i q x (simp length-append (omega arith)))

pub run_line : (a xs ys zs : List ℕ) (i p q r x : ℕ) → i + length xs ≡ p → p + length ys ≡ q → q + length zs ≡ r
    → set (overwrite (overwrite (overwrite a i xs) p ys) q zs) r x ≡ overwrite a i (((xs ++ ys) ++ zs) ++ x ∷ [])
run_line a xs ys zs i p q r x ep eq er =
    rw (run_more a xs ys i p ep) (run_end a (xs ++ ys) zs i q r x (simp length-append (omega arith)) er)
