-- `row_table::row_at`: one case for each key; a number from 1 to 11 that is none of 1 to 10 is 11 (`last_row`).
use mathlib.Core.Path.{◌≡◌, ap, sym}
use native.Mathlib.Omega.{arith}
use Rattle.model.specs.Rows.{row_at, row_table}
use Rattle.row_table.proofs.row_at.Goals as goal

pub returns-in-1 : goal.returns-in-1
unfolding row_at row_table
returns-in-1 c = sym (ap row_at c.in-1.is)

pub returns-in-2 : goal.returns-in-2
unfolding row_at row_table
returns-in-2 c = sym (ap row_at c.in-2.is)

pub returns-in-3 : goal.returns-in-3
unfolding row_at row_table
returns-in-3 c = sym (ap row_at c.in-3.is)

pub returns-in-4 : goal.returns-in-4
unfolding row_at row_table
returns-in-4 c = sym (ap row_at c.in-4.is)

pub returns-in-5 : goal.returns-in-5
unfolding row_at row_table
returns-in-5 c = sym (ap row_at c.in-5.is)

pub returns-in-6 : goal.returns-in-6
unfolding row_at row_table
returns-in-6 c = sym (ap row_at c.in-6.is)

pub returns-in-7 : goal.returns-in-7
unfolding row_at row_table
returns-in-7 c = sym (ap row_at c.in-7.is)

pub returns-in-8 : goal.returns-in-8
unfolding row_at row_table
returns-in-8 c = sym (ap row_at c.in-8.is)

pub returns-in-9 : goal.returns-in-9
unfolding row_at row_table
returns-in-9 c = sym (ap row_at c.in-9.is)

pub returns-in-10 : goal.returns-in-10
unfolding row_at row_table
returns-in-10 c = sym (ap row_at c.in-10.is)

pub returns-in_default : goal.returns-in_default
unfolding row_at row_table
returns-in_default c =
    let e : c.args.r ≡ 11 = omega arith in
    sym (ap row_at e)
