-- What the eleven-row table says of a tag's row, of the rows that span, and of the lengths of those that do not.
use Prim.Native.Nat.{ℕ, suc, ◌+◌, ◌/◌, ◌%◌, ◌≤◌, ◌<◌}
use mathlib.Core.Path.{◌≡◌}
use mathlib.Core.Bool.{true, false, false≢true, true≢false}
use mathlib.Core.List.{List, [], ◌∷◌}
use lib.Dec.{eqb}
use lib.ListN.{length}
use native.Mathlib.Omega.{arith}
use borrow.Author.Tests.{eqb-true, ne_eqb, leb-true}
use Rattle.lists.specs.Choice.{by_cond}
use Rattle.model.specs.declared.Descriptor.{Descriptor}
use Rattle.model.specs.declared.Row.{Row}
use Rattle.model.specs.declared.Spot.TheVariants.{At}
use Rattle.model.specs.declared.Verdict.TheVariants.{Passes}
use Rattle.model.specs.Rows.{bit, row_table, row_at, row_from, row_of, in_row, taken, none_from, ready_for, due, table_room}
use Rattle.model.specs.Rows.{descriptor_size, secret_room}
use Rattle.model.specs.Rules.{tag_spot, room_of, length_ok}
use Rattle.lists.specs.Truth.{and_l, and_r}
use Rattle.theorem_sound.proofs.Taking.{by_row}
use Rattle.model.proofs.Laws.{room_spot_lem}

row_from_below : (xs : List Row) (tag r : ℕ) → 1 ≤ r → row_from tag r xs < r + length xs
unfolding row_from
row_from_below [] tag r h = omega arith
row_from_below (x ∷ xs) tag r h =
    by_cond (λ (n : ℕ). n < r + suc (length xs)) (in_row tag x) (λ e. omega arith)
    (λ e. let k : row_from tag (suc r) xs < suc r + length xs = row_from_below xs tag (suc r) (omega arith) in
    omega arith)

-- there are eleven rows
pub row_of_limit : (tag : ℕ) → row_of tag ≤ 11
row_of_limit tag = let k : row_of tag < 12 = unfold row_of row_table in row_from_below row_table tag 1 (omega arith) in
    omega arith

-- rows 5 and 11 span, and no other
pub by_span : (P : ℕ → Type 0) → P 5 → P 11 → (r : ℕ) → 1 ≤ r → r ≤ 11 → (row_at r).spans ≡ true → P r
unfolding row_at row_table
by_span P p q =
    by_row (λ (r : ℕ). (row_at r).spans ≡ true → P r)
    (λ e. absurd (false≢true e)) (λ e. absurd (false≢true e)) (λ e. absurd (false≢true e))
    (λ e. absurd (false≢true e)) (λ e. p)
    (λ e. absurd (false≢true e)) (λ e. absurd (false≢true e)) (λ e. absurd (false≢true e))
    (λ e. absurd (false≢true e)) (λ e. absurd (false≢true e)) (λ e. q)

-- a value of the others that is no fact of rows 2 to 4 is a secret
abbrev Short : ℕ → Type 0
Short r = (row_at r).spans ≡ false → eqb r 2 ≡ false → eqb r 3 ≡ false → eqb r 4 ≡ false → (row_at r).most ≤ secret_room

pub secret_most : (r : ℕ) → 1 ≤ r → r ≤ 11 → Short r
unfolding row_at row_table
secret_most =
    by_row Short (λ e a b c. omega arith) (λ e a b c. absurd (true≢false a)) (λ e a b c. absurd (true≢false b))
    (λ e a b c. absurd (true≢false c))
    (λ e a b c. absurd (true≢false e)) (λ e a b c. omega arith) (λ e a b c. omega arith) (λ e a b c. omega arith)
    (λ e a b c. omega arith)
    (λ e a b c. omega arith) (λ e a b c. absurd (true≢false e))

passes_with : (m n : ℕ) → Passes m ≡ Passes n → n ≡ m
passes_with m n e = cc

-- the room of a row that does not span is the table's
abbrev Roomed : List Descriptor → ℕ → ℕ → ℕ → Type 0
Roomed files tag room r = (row_at r).spans ≡ false → room_of files r tag ≡ Passes room → room ≡ (row_at r).most

pub room_most : (files : List Descriptor) (tag room r : ℕ) → 1 ≤ r → r ≤ 11 → Roomed files tag room r
unfolding row_at row_table room_of
room_most files tag room =
    by_row (Roomed files tag room) (λ e f. passes_with _ _ f) (λ e f. passes_with _ _ f) (λ e f. passes_with _ _ f)
    (λ e f. passes_with _ _ f)
    (λ e f. passes_with _ _ f) (λ e f. passes_with _ _ f) (λ e f. passes_with _ _ f) (λ e f. passes_with _ _ f)
    (λ e f. passes_with _ _ f)
    (λ e f. passes_with _ _ f) (λ e f. absurd (true≢false e))

-- row 5 is due: it is not taken
pub due_untaken : (rows last tag : ℕ) → due rows last 5 tag ≡ true → taken rows 5 ≡ false
unfolding due none_from taken
due_untaken rows last tag e =
    let z : rows / 16 ≡ 0 = eqb-true (rows / 16) 0 (and_r (ready_for rows 5) (eqb (rows / 16) 0) e) in
    ne_eqb (rows / bit 5 % 2) 1 (omega arith)

-- the length of a '3100' that rule f passes
pub table_length : (files : List Descriptor) (tag room len : ℕ) → room_of files 5 tag ≡ Passes room
    → length_ok 5 room len ≡ true
    → (1 ≤ len) × (len ≤ table_room) × (len % descriptor_size ≡ 0)
unfolding room_of row_at row_table
table_length files tag room len e h =
    let q : room ≡ 558 = passes_with 558 room e in
    let a : 18 ≤ len = leb-true 18 len (search (and_l, and_r)) in
    let b : len ≤ room = leb-true len room (search (and_l, and_r)) in
    (omega arith, omega arith, eqb-true (len % 18) 0 (search (and_l, and_r)))

-- rule e passes an 'ssnn' with its record's size
pub record_room_lem : (files : List Descriptor) (tag room : ℕ) → room_of files 11 tag ≡ Passes room
    → (base : ℕ) × (tag_spot files tag ≡ At base room)
unfolding room_of
record_room_lem files tag room e = room_spot_lem (tag_spot files tag) room e

-- rule f's most
