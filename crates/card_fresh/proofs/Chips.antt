-- The chip record's parts, and its form.
use Prim.Native.Nat.{ℕ, ◌+◌, ◌≤◌}
use mathlib.Core.Path.{◌≡◌}
use mathlib.Core.Bool.{true}
use mathlib.Core.List.{List}
use native.Mathlib.Omega.{arith}
use lib.Dec.{eqb}
use lib.ListN.{length, drop, length-take, length-drop}
use borrow.Author.Tests.{eqb-true}
use Rattle.lists.specs.Bytes.{part, padded, padded_full, all_zero}
use Rattle.model.specs.Stored.{chip_size, chip_form}
use Rattle.lists.specs.Truth.{and_l}

-- a part that lies within the bytes fills an array of its size
pub padded_part : (b : List ℕ) (at n : ℕ) → at + n ≤ length b → padded n (part b at n) ≡ part b at n
padded_part b at n h = padded_full n (part b at n) (rw (length-take, length-drop) (omega arith))

-- a record of the right form has 40 bytes
pub form_size : (b : List ℕ) → chip_form b ≡ true → length b ≡ chip_size
unfolding chip_form
form_size b e = eqb-true (length b) chip_size (and_l (eqb (length b) chip_size) (all_zero (drop 37 b)) e)
