-- A query's place: the first byte, and all of the data.
use Prim.Native.Nat.{ℕ, ◌-◌, ◌<◌}
use mathlib.Core.Path.{◌≡◌}
use mathlib.Core.Bool.{true, false, ◌&&◌}
use native.Mathlib.Omega.{arith}
use lib.Dec.{eqb}
use borrow.Author.Tests.{eq-eqb, ne_eqb}

-- so many bytes are left: whether those are all
module _ (n at left : ℕ) (e : left ≡ n - at) where
  pub not_first : at < n → (at ≡ 0 → ⊥) → eqb left n ≡ false
  not_first h f = ne_eqb left n (λ q. f (omega arith))

  pub first : at ≡ 0 → eqb left n ≡ true
  first h = eq-eqb left n (omega arith)

-- a header at the first byte that tells no value, and is all of the data: the test of a query
pub alone : (n at left len size : ℕ) → left ≡ n - at → at ≡ 0 → len ≡ 0 → size ≡ n
    → (eqb left n && eqb len 0 && eqb size n) ≡ true
alone n at left len size e f g h = rw (first n at left e f, eq-eqb len 0 g, eq-eqb size n h)
