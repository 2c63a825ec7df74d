-- The row table, row by row.
use Prim.Native.Nat.{ℕ, ◌+◌, ◌-◌, ◌≤◌, ◌<◌}
use mathlib.Core.Path.{◌≡◌, refl}
use mathlib.Core.Bool.{false, ◌||◌}
use native.Mathlib.Numerals.{add-one}
use native.Mathlib.Omega.{arith}
use lib.ListN.{length, take, drop}
use Rattle.lists.specs.Rest.{rest_cons, rest_none}
use Rattle.model.specs.Rows.{row_table, no_row, row_at, missing_from}
use Rattle.row_table.specs.Lacking.{lacking}

rows_eleven : length row_table ≡ 11
unfolding row_table
rows_eleven = refl

module _ (rows n : ℕ) (fits : n ≤ 11) where
  pub missing_step : (k : ℕ) → k < n
      → missing_from rows (k + 1) (drop k (take n row_table))
      ≡ (lacking rows k || missing_from rows (k + 1 + 1) (drop (k + 1) (take n row_table)))
  unfolding missing_from lacking row_at
  missing_step k h =
      let e : k + 1 - 1 ≡ k = omega arith in
      rw (rest_cons row_table n (rw rows_eleven fits) k no_row h, e, add-one (k + 1))

  pub missing_end : (k : ℕ) → n ≤ k → missing_from rows (k + 1) (drop k (take n row_table)) ≡ false
  unfolding missing_from
  missing_end k h = rw (rest_none row_table n (rw rows_eleven fits) k h)
