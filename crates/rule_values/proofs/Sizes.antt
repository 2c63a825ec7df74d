-- The lengths that rule f leaves of a row that stays whole.
use Prim.Native.Nat.{ℕ, ◌≤◌}
use mathlib.Core.Path.{◌≡◌, sym, ◌∙◌}
use mathlib.Core.Bool.{true, false, true≢false}
use native.Mathlib.Omega.{arith}
use borrow.Author.Tests.{leb-true}
use Rattle.model.specs.Rows.{row_table, row_at}
use Rattle.model.specs.Rules.{length_ok}
use Rattle.lists.specs.Truth.{and_l, and_r}
use Rattle.theorem_sound.proofs.Taking.{by_row}
use Rattle.walk_course.specs.Lengths.{Sized}

-- no row's step is 0
pub row_steps : (r : ℕ) → 1 ≤ r → r ≤ 11 → 1 ≤ (row_at r).step
unfolding row_at row_table
row_steps =
    by_row (λ (r : ℕ). 1 ≤ (row_at r).step) (omega arith) (omega arith) (omega arith) (omega arith) (omega arith)
    (omega arith) (omega arith) (omega arith)
    (omega arith) (omega arith) (omega arith)

abbrev Sizes : ℕ → ℕ → Type 0
Sizes n r = (row_at r).spans ≡ false → (row_at r).least ≤ n → n ≤ (row_at r).most → Sized r n

row_sizes : (n r : ℕ) → 1 ≤ r → r ≤ 11 → Sizes n r
unfolding row_at row_table
row_sizes n =
    by_row (Sizes n) (λ e a b. omega arith) (λ e a b. omega arith) (λ e a b. omega arith) (λ e a b. omega arith)
    (λ e a b. absurd (true≢false e))
    (λ e a b. omega arith) (λ e a b. omega arith) (λ e a b. omega arith) (λ e a b. omega arith) (λ e a b. omega arith)
    (λ e a b. absurd (true≢false e))

spans_11 : (r : ℕ) → r ≡ 11 → (row_at r).spans ≡ true
unfolding row_at row_table
spans_11 r e = rw e

-- what rules e and f passed of such a row
pub sized_of : (room n r : ℕ) → 1 ≤ r → r ≤ 11 → (row_at r).spans ≡ false → ((r ≡ 11 → ⊥) → room ≡ (row_at r).most)
    → length_ok r room n ≡ true → Sized r n
sized_of room n r a b e p h =
    let m : room ≡ (row_at r).most = p (λ q. absurd (true≢false (sym (spans_11 r q) ∙ e))) in
    let x : (row_at r).least ≤ n = leb-true (row_at r).least n (search (and_l, and_r)) in
    let y : n ≤ room = leb-true n room (search (and_l, and_r)) in
    row_sizes n r a b e x (omega arith)

-- a value has its room
