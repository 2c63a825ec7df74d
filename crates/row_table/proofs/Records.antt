-- The tags of records, '0100' to '1EFF', are those of row 11.
use Prim.Native.Nat.{ℕ, ◌≤◌}
use mathlib.Core.Path.{◌≡◌, refl, ap}
use mathlib.Core.Bool.{Bool, true, false, cond, ◌&&◌}
use native.Mathlib.Omega.{arith}
use lib.Dec.{eqb, leb}
use borrow.Author.Tests.{le-leb, lt-leb, leb-true, eqb-true}
use Rattle.model.specs.Rows.{row_at, row_of, row_from, row_table}
use Rattle.lists.specs.Truth.{both, same_if}

-- every other row's tag lies above them
above : (tag t : ℕ) → tag ≤ 0x1EFF → leb 0x2000 t ≡ true → leb t tag ≡ false
above tag t h e = let g = leb-true 0x2000 t e in lt-leb t tag (omega arith)

pub record_row_lem : (tag : ℕ) → 0x0100 ≤ tag → tag ≤ 0x1EFF → row_of tag ≡ 11
unfolding row_of row_from row_table
record_row_lem tag h g = simp (above, le-leb)

in_row_11 : (tag : ℕ) → (leb 0x0100 tag && leb tag 0x1EFF) ≡ true → row_of tag ≡ 11
in_row_11 tag e =
    let t = both (leb 0x0100 tag) e in
    record_row_lem tag (leb-true 0x0100 tag t.0) (leb-true tag 0x1EFF t.1)

choice_eqb : (b : Bool) (x y : ℕ) → eqb (cond b x y) 11 ≡ cond b (eqb x 11) (eqb y 11)
choice_eqb true x y = refl
choice_eqb false x y = refl

-- they, and no others
by_test : (tag : ℕ) (b : Bool) → (leb 0x0100 tag && leb tag 0x1EFF) ≡ b → b ≡ eqb (row_of tag) 11
unfolding row_of row_from row_table
by_test tag true e = rw (in_row_11 tag e)
by_test tag false e = simp (choice_eqb, same_if, e)

pub record_test : (tag : ℕ) → (leb 0x0100 tag && leb tag 0x1EFF) ≡ eqb (row_of tag) 11
record_test tag = by_test tag _ refl

-- and their values span
pub record_spans : (tag : ℕ) → eqb (row_of tag) 11 ≡ true → (row_at (row_of tag)).spans ≡ true
unfolding row_at row_table
record_spans tag e = ap (λ (r : ℕ). (row_at r).spans) (eqb-true (row_of tag) 11 e)
