-- `row_table::row_of`: one case for each of the ten tags; any other is a record's by `record_row_lem`,
-- or unknown: by `unnamed` only the records' bounds are left to test.
use Prim.Native.Nat.{ℕ}
use mathlib.Core.Path.{◌≡◌, refl, ap, sym}
use mathlib.Core.Bool.{Bool, cond, true, false, ◌&&◌}
use native.Mathlib.Omega.{arith}
use lib.Dec.{leb}
use borrow.Author.Tests.{lt-leb, leb-true}
use Rattle.lists.specs.Choice.{cases}
use Rattle.model.specs.Rows.{row_of, row_from, row_table}
use Rattle.row_table.proofs.Records.{record_row_lem}
use Rattle.row_table.proofs.row_of.Goals as goal

and_false : (a b : Bool) → (a ≡ true → b ≡ false) → (a && b) ≡ false
and_false true b f = f refl
and_false false b f = refl

-- a row of one tag has no other
other : {t tag : ℕ} → (tag ≡ t → ⊥) → (leb t tag && leb tag t) ≡ false
other {t = t} {tag = tag} d = and_false (leb t tag) (leb tag t)
    (λ e. let h = leb-true t tag e in lt-leb tag t (omega arith))

-- a tag that is none of the ten is unknown, unless it is a record's
unnamed : (tag : ℕ) → (tag ≡ 0x9484 → ⊥) → (tag ≡ 0x2000 → ⊥) → (tag ≡ 0x2100 → ⊥) → (tag ≡ 0x2200 → ⊥)
    → (tag ≡ 0x3100 → ⊥) → (tag ≡ 0x3800 → ⊥) → (tag ≡ 0x4101 → ⊥) → (tag ≡ 0x4102 → ⊥) → (tag ≡ 0x4103 → ⊥)
    → (tag ≡ 0x4104 → ⊥) → row_of tag ≡ cond (leb 0x0100 tag && leb tag 0x1EFF) 11 0
unfolding row_of row_from row_table
unnamed tag d1 d2 d3 d4 d5 d6 d7 d8 d9 d10 =
    rw (other d1, other d2, other d3, other d4, other d5, other d6, other d7, other d8, other d9, other d10)

pub returns-in-38020 : goal.returns-in-38020
unfolding row_of row_from row_table
returns-in-38020 c = (sym (ap row_of c.in-38020.is), omega arith)

pub returns-in-8192 : goal.returns-in-8192
unfolding row_of row_from row_table
returns-in-8192 c = (sym (ap row_of c.in-8192.is), omega arith)

pub returns-in-8448 : goal.returns-in-8448
unfolding row_of row_from row_table
returns-in-8448 c = (sym (ap row_of c.in-8448.is), omega arith)

pub returns-in-8704 : goal.returns-in-8704
unfolding row_of row_from row_table
returns-in-8704 c = (sym (ap row_of c.in-8704.is), omega arith)

pub returns-in-12544 : goal.returns-in-12544
unfolding row_of row_from row_table
returns-in-12544 c = (sym (ap row_of c.in-12544.is), omega arith)

pub returns-in-14336 : goal.returns-in-14336
unfolding row_of row_from row_table
returns-in-14336 c = (sym (ap row_of c.in-14336.is), omega arith)

pub returns-in-16641 : goal.returns-in-16641
unfolding row_of row_from row_table
returns-in-16641 c = (sym (ap row_of c.in-16641.is), omega arith)

pub returns-in-16642 : goal.returns-in-16642
unfolding row_of row_from row_table
returns-in-16642 c = (sym (ap row_of c.in-16642.is), omega arith)

pub returns-in-16643 : goal.returns-in-16643
unfolding row_of row_from row_table
returns-in-16643 c = (sym (ap row_of c.in-16643.is), omega arith)

pub returns-in-16644 : goal.returns-in-16644
unfolding row_of row_from row_table
returns-in-16644 c = (sym (ap row_of c.in-16644.is), omega arith)

pub returns-in-256-to-7935 : goal.returns-in-256-to-7935
returns-in-256-to-7935 c = (sym (record_row_lem c.args.tag (omega arith) (omega arith)), omega arith)

pub returns-in_default : goal.returns-in_default
returns-in_default c =
    let tag = c.args.tag in
    rw (unnamed tag (λ e. omega arith) (λ e. omega arith) (λ e. omega arith) (λ e. omega arith) (λ e. omega arith)
    (λ e. omega arith) (λ e. omega arith) (λ e. omega arith) (λ e. omega arith) (λ e. omega arith))
    (search cases, omega arith)

pub returns-in_default-2 : goal.returns-in_default-2
returns-in_default-2 c =
    let tag = c.args.tag in
    rw (unnamed tag (λ e. omega arith) (λ e. omega arith) (λ e. omega arith) (λ e. omega arith) (λ e. omega arith)
    (λ e. omega arith) (λ e. omega arith) (λ e. omega arith) (λ e. omega arith) (λ e. omega arith))
    (search cases, omega arith)
