-- Sets of rows as numbers.
use Prim.Native.Nat.{ℕ, suc, ◌+◌, ◌*◌, ◌-◌, ◌/◌, ◌%◌, ◌^◌, ◌≤◌, ◌<◌}
use mathlib.Core.Path.{◌≡◌, sym, ap, ◌∙◌, subst}
use mathlib.Core.Bool.{false}
use native.Mathlib.Nat.{mod-eq_of_lt, one-mul, mul-le-mul_right, lt-div-mul-add, add-mul, pow-suc}
use native.Mathlib.Omega.{arith}
use lib.Dec.{eqb}
use lib.Pow.{pow_mono, pow_pos, pow-add, shr_lt}
use borrow.Author.Tests.{eqb-false}

-- a row's bit is at most 1024
pub bit_le : (k : ℕ) → k ≤ 10 → 2 ^ k ≤ 1024
bit_le k h = pow_mono {i = k} {j = 10} h

pub bit_shifted : (k : ℕ) → k ≤ 10 → 1 * 2 ^ k % 65536 ≡ 2 ^ k
bit_shifted k h = rw one-mul (mod-eq_of_lt (omega (arith, bit_le k h)))

-- a set of 16 bits has room for a bit that it does not have
pub bit_fits : (s k : ℕ) → k ≤ 10 → s < 65536 → eqb (s / 2 ^ k % 2) 1 ≡ false → s + 2 ^ k < 65536
bit_fits s k h f e =
    let j = 15 - k in
    let a : suc j + k ≡ 16 = omega arith in
    let w : 2 ^ suc j * 2 ^ k ≡ 65536 = sym (pow-add 2 (suc j) k) ∙ ap (λ (n : ℕ). 2 ^ n) a in
    let p : 2 ^ suc j ≡ 2 ^ j * 2 = pow-suc 2 j in
    let q : s / 2 ^ k < 2 ^ suc j = shr_lt (suc j) k (subst (λ (n : ℕ). s < n) (sym (ap (λ (n : ℕ). 2 ^ n) a)) f) in
    let z : s / 2 ^ k % 2 ≡ 1 → ⊥ = eqb-false (s / 2 ^ k % 2) 1 e in
    let r : s / 2 ^ k + 2 ≤ 2 ^ suc j = omega arith in
    let m : (s / 2 ^ k + 2) * 2 ^ k ≤ 2 ^ suc j * 2 ^ k = mul-le-mul_right (2 ^ k) r in
    let d : (s / 2 ^ k + 2) * 2 ^ k ≡ s / 2 ^ k * 2 ^ k + 2 * 2 ^ k = add-mul (s / 2 ^ k) 2 (2 ^ k) in
    omega (arith, lt-div-mul-add {a = s} (pow_pos k))
