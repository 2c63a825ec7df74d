-- `row_sets::with_row`: a set of 16 bits has room for a bit that it does not have (`bit_fits`), so the sum fits;
-- by `bit_shifted` the shift loses nothing.
use Prim.Native.Nat.{◌-◌, ◌≤◌}
use mathlib.Core.Path.{sym, ◌∙◌}
use native.Mathlib.Omega.{arith}
use borrow.Author.Rules.{rules}
use Rattle.row_sets.proofs.Sets.{bit_shifted, bit_fits}
use Rattle.model.specs.Rows.{with_row, taken}
use Rattle.row_sets.proofs.with_row.Goals as goal

pub returns-then-is_taken : goal.returns-then-is_taken
unfolding with_row
returns-then-is_taken c = simp (← c.is_taken.ensures, c.if-is_taken.true)

pub overflow_add-result : goal.overflow_add-result
unfolding taken
overflow_add-result c =
    let a = c.args in
    let k : a.r - 1 ≤ 10 = omega arith in
    let f = bit_fits a.rows (a.r - 1) k (search rules) (sym c.is_taken.ensures ∙ c.if-is_taken.false) in
    rw (bit_shifted (a.r - 1) k) (record { fits = f })

pub returns : goal.returns
unfolding with_row
returns c =
    let a = c.args in
    let k : a.r - 1 ≤ 10 = omega arith in
    rw (bit_shifted (a.r - 1) k) (simp (← c.is_taken.ensures, c.if-is_taken.false))
