-- How many characters a line has, whatever it tells.
use Prim.Native.Nat.{ℕ}
use mathlib.Core.Path.{◌≡◌, refl}
use lib.ListN.{length}
use Rattle.model.specs.Lines.{line_with, end_of}
use Rattle.print_numbers.specs.Trace.{width_of, decimal_of}
use Rattle.print_numbers.proofs.Digits.{length_digits}

pub length_line : (n kind number word gp internal rows : ℕ)
    → length (line_with n kind number word gp internal rows) ≡ 26
unfolding line_with
length_line n kind number word gp internal rows = refl

pub length_end : (n : ℕ) → length (end_of n) ≡ 10
unfolding end_of
length_end n = refl

pub length_decimal : (n : ℕ) → length (decimal_of n) ≡ width_of n
length_decimal n = length_digits (width_of n) n
