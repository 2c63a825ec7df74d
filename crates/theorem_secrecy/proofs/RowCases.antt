-- A tag's row, case by case: what proofs that go through the rules go by.
use Prim.Native.Nat.{ℕ}
use mathlib.Core.Path.{◌≡◌, subst}
use mathlib.Core.Bool.{Bool, true, false, ◌&&◌, and-eq-true_iff, true≢false}
use native.Mathlib.Nat.{le_antisymm}
use borrow.Author.Tests.{leb-true}
use lib.Dec.{leb}
use Rattle.lists.specs.Choice.{by_cond}
use Rattle.model.specs.Rows.{row_of, row_table, row_from}
use Rattle.model.specs.Rules.{is_query}

-- '9484' is the only tag of row 1
is_challenge : (tag : ℕ) → (leb 0x9484 tag && leb tag 0x9484) ≡ true → tag ≡ 0x9484
is_challenge tag e =
    let both = (and-eq-true_iff (leb 0x9484 tag) (leb tag 0x9484)).0 e in
    le_antisymm (leb-true tag 0x9484 both.1) (leb-true 0x9484 tag both.0)

-- the row of a tag that is no query, one by one
pub row_cases : (P : ℕ → Type 0) (tag : ℕ) → is_query tag ≡ false
    → P 0 → P 2 → P 3 → P 4 → P 5 → P 6 → P 7 → P 8 → P 9 → P 10 → P 11 → P (row_of tag)
unfolding row_of row_from row_table
row_cases P tag q p0 p2 p3 p4 p5 p6 p7 p8 p9 p10 p11 =
    by_cond P (is 0x9484) (λ e. absurd (true≢false (subst (λ (t : ℕ). is_query t ≡ false) (is_challenge tag e) q)))
    (λ _. by_cond P (is 0x2000) (λ _. p2)
    (λ _. by_cond P (is 0x2100) (λ _. p3)
    (λ _. by_cond P (is 0x2200) (λ _. p4)
    (λ _. by_cond P (is 0x3100) (λ _. p5)
    (λ _. by_cond P (is 0x3800) (λ _. p6)
    (λ _. by_cond P (is 0x4101) (λ _. p7)
    (λ _. by_cond P (is 0x4102) (λ _. p8)
    (λ _. by_cond P (is 0x4103) (λ _. p9)
    (λ _. by_cond P (is 0x4104) (λ _. p10)
    (λ _. by_cond P (leb 0x0100 tag && leb tag 0x1EFF) (λ _. p11) (λ _. p0)))))))))))
  where
    is : ℕ → Bool
    is t = leb t tag && leb tag t
