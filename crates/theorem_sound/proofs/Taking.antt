-- What taking a row does to the set of rows: it stays below 2 ^ 11, and row 5 stays taken.
use Prim.Native.Nat.{ℕ, zero, suc, ◌+◌, ◌/◌, ◌%◌, ◌≤◌, ◌<◌, ◌^◌}
use mathlib.Core.Path.{◌≡◌}
use mathlib.Core.Bool.{true}
use native.Mathlib.Omega.{arith}
use borrow.Author.Tests.{eq-eqb, eqb-true, eqb-false}
use Rattle.lists.specs.Choice.{by_cond}
use Rattle.model.specs.Rows.{bit, taken, with_row}

-- row by row
pub by_row : (P : ℕ → Type 0) → P 1 → P 2 → P 3 → P 4 → P 5 → P 6 → P 7 → P 8 → P 9 → P 10 → P 11 → (r : ℕ) → 1 ≤ r
    → r ≤ 11 → P r
by_row P p1 p2 p3 p4 p5 p6 p7 p8 p9 p10 p11 zero h k = absurd (omega arith)
by_row P p1 p2 p3 p4 p5 p6 p7 p8 p9 p10 p11 (suc zero) h k = p1
by_row P p1 p2 p3 p4 p5 p6 p7 p8 p9 p10 p11 (suc (suc zero)) h k = p2
by_row P p1 p2 p3 p4 p5 p6 p7 p8 p9 p10 p11 (suc (suc (suc zero))) h k = p3
by_row P p1 p2 p3 p4 p5 p6 p7 p8 p9 p10 p11 (suc (suc (suc (suc zero)))) h k = p4
by_row P p1 p2 p3 p4 p5 p6 p7 p8 p9 p10 p11 (suc (suc (suc (suc (suc zero))))) h k = p5
by_row P p1 p2 p3 p4 p5 p6 p7 p8 p9 p10 p11 (suc (suc (suc (suc (suc (suc zero)))))) h k = p6
by_row P p1 p2 p3 p4 p5 p6 p7 p8 p9 p10 p11 (suc (suc (suc (suc (suc (suc (suc zero))))))) h k = p7
by_row P p1 p2 p3 p4 p5 p6 p7 p8 p9 p10 p11 (suc (suc (suc (suc (suc (suc (suc (suc zero)))))))) h k = p8
by_row P p1 p2 p3 p4 p5 p6 p7 p8 p9 p10 p11 (suc (suc (suc (suc (suc (suc (suc (suc (suc zero))))))))) h k = p9
by_row P p1 p2 p3 p4 p5 p6 p7 p8 p9 p10 p11 (suc (suc (suc (suc (suc (suc (suc (suc (suc (suc zero)))))))))) h k = p10
by_row P p1 p2 p3 p4 p5 p6 p7 p8 p9 p10 p11 (suc (suc (suc (suc (suc (suc (suc (suc (suc (suc (suc zero))))))))))) h k
    = p11
by_row P p1 p2 p3 p4 p5 p6 p7 p8 p9 p10 p11 (suc (suc (suc (suc (suc (suc (suc (suc (suc (suc (suc (suc r))))))))))))
    h k = absurd (omega arith)

abbrev Bounded : ℕ → Type 0
Bounded r = (rows : ℕ) → rows < 2 ^ 11 → (rows / bit r % 2 ≡ 1 → ⊥) → rows + bit r < 2 ^ 11

bounded : (r : ℕ) → 1 ≤ r → r ≤ 11 → Bounded r
bounded =
    by_row Bounded
    (λ rows h k. omega arith) (λ rows h k. omega arith) (λ rows h k. omega arith) (λ rows h k. omega arith)
    (λ rows h k. omega arith) (λ rows h k. omega arith) (λ rows h k. omega arith) (λ rows h k. omega arith)
    (λ rows h k. omega arith) (λ rows h k. omega arith) (λ rows h k. omega arith)

pub with_row_bound : (r : ℕ) → 1 ≤ r → r ≤ 11 → (rows : ℕ) → rows < 2 ^ 11 → with_row rows r < 2 ^ 11
unfolding with_row taken
with_row_bound r a b rows h =
    by_cond (λ (x : ℕ). x < 2 ^ 11) (taken rows r) (λ e. h)
    (λ e. bounded r a b rows h (eqb-false (rows / bit r % 2) 1 e))

abbrev Keeps5 : ℕ → Type 0
Keeps5 r = (rows : ℕ) → (rows / bit r % 2 ≡ 1 → ⊥) → rows / bit 5 % 2 ≡ 1 → (rows + bit r) / bit 5 % 2 ≡ 1

-- a row below 5 that is not taken: there is room for it below row 5's digit
keeps5_one : Keeps5 1
keeps5_one rows h k =
    let e : rows / 1 % 2 ≡ rows % 16 / 1 % 2 = omega arith in
    let n : rows % 16 + 1 < 16 = omega arith in
    let d : (rows + 1) / 16 ≡ rows / 16 = omega arith in
    rw d k

keeps5_two : Keeps5 2
keeps5_two rows h k =
    let e : rows / 2 % 2 ≡ rows % 16 / 2 % 2 = omega arith in
    let n : rows % 16 + 2 < 16 = omega arith in
    let d : (rows + 2) / 16 ≡ rows / 16 = omega arith in
    rw d k

keeps5_three : Keeps5 3
keeps5_three rows h k =
    let e : rows / 4 % 2 ≡ rows % 16 / 4 % 2 = omega arith in
    let n : rows % 16 + 4 < 16 = omega arith in
    let d : (rows + 4) / 16 ≡ rows / 16 = omega arith in
    rw d k

keeps5_four : Keeps5 4
keeps5_four rows h k =
    let e : rows / 8 % 2 ≡ rows % 16 / 8 % 2 = omega arith in
    let n : rows % 16 + 8 < 16 = omega arith in
    let d : (rows + 8) / 16 ≡ rows / 16 = omega arith in
    rw d k

keeps5 : (r : ℕ) → 1 ≤ r → r ≤ 11 → Keeps5 r
keeps5 =
    by_row Keeps5 keeps5_one keeps5_two keeps5_three keeps5_four
    (λ rows h k. omega arith) (λ rows h k. omega arith) (λ rows h k. omega arith) (λ rows h k. omega arith)
    (λ rows h k. omega arith) (λ rows h k. omega arith) (λ rows h k. omega arith)

-- row 5, once taken, stays
pub with_row_keeps : (r : ℕ) → 1 ≤ r → r ≤ 11 → (rows : ℕ) → taken rows 5 ≡ true → taken (with_row rows r) 5 ≡ true
unfolding with_row taken
with_row_keeps r a b rows h =
    by_cond (λ (x : ℕ). taken x 5 ≡ true) (taken rows r) (λ e. h)
    (λ e. eq-eqb ((rows + bit r) / bit 5 % 2) 1
    (keeps5 r a b rows (eqb-false (rows / bit r % 2) 1 e) (eqb-true (rows / bit 5 % 2) 1 h)))

-- row 5 taken is taken
pub with_row_itself : (rows : ℕ) → taken (with_row rows 5) 5 ≡ true
unfolding with_row taken
with_row_itself rows =
    by_cond (λ (x : ℕ). taken x 5 ≡ true) (taken rows 5) (λ e. e)
    (λ e. eq-eqb ((rows + bit 5) / bit 5 % 2) 1 (let k : rows / 16 % 2 ≡ 1
    → ⊥ = eqb-false (rows / bit 5 % 2) 1 e in omega arith))
