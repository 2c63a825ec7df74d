-- Lines whose last is of a loaded card, with END and their number behind them, are a whole register.
use Prim.Native.Nat.{ℕ, ◌+◌, ◌*◌, ◌-◌, ◌≤◌}
use mathlib.Core.Path.{◌≡◌, refl}
use mathlib.Core.Bool.{true}
use mathlib.Core.List.{List, ◌++◌, append_assoc}
use native.Mathlib.Omega.{arith}
use lib.ListN.{length, take, drop, length-append}
use lib.Seq.{drop_at, drop-drop}
use borrow.Author.Tests.{le-leb, eq-eqb}
use Rattle.lists.specs.Bytes.{eq_same}
use Rattle.model.specs.Lines.{line_with, end_of}
use Rattle.print_numbers.proofs.Sizes.{length_line, length_end}
use Rattle.register_whole.specs.Whole.{line_size, end_size, most_events, word_place, loaded_size, loaded_text, ends_as}
use Rattle.register_whole.specs.Whole.{last_loaded, whole_by}

-- a line of a loaded card
abbrev pub loaded_line : ℕ → ℕ → ℕ → ℕ → List ℕ
loaded_line event kind number rows = line_with event kind number 0x9000 0x07 0xA5 rows

module _ (n event kind number rows : ℕ) (before : List ℕ)
    (some : 1 ≤ n) (few : n ≤ most_events) (sized : length before ≡ (n - 1) * line_size) where
  lines_length : length (before ++ loaded_line event kind number rows) ≡ n * line_size
  lines_length =
      rw (
        length-append before (loaded_line event kind number rows),
        length_line event kind number 0x9000 0x07 0xA5 rows,
      )
      (omega arith)

  all_length : length ((before ++ loaded_line event kind number rows) ++ end_of n) ≡ n * line_size + end_size
  all_length = rw (length-append (before ++ loaded_line event kind number rows) (end_of n), lines_length, length_end n)

  take_end : take end_size (end_of n) ≡ end_of n
  unfolding end_of
  take_end = refl

  ends_so : ends_as n ((before ++ loaded_line event kind number rows) ++ end_of n) ≡ true
  unfolding ends_as
  ends_so =
      let l = before ++ loaded_line event kind number rows in
      rw (drop_at l (end_of n) (n * line_size) lines_length, take_end) (eq_same (end_of n))

  line_so : take loaded_size (drop word_place (loaded_line event kind number rows ++ end_of n)) ≡ loaded_text
  unfolding line_with
  line_so = refl

  loaded_so : last_loaded n ((before ++ loaded_line event kind number rows) ++ end_of n) ≡ true
  unfolding last_loaded
  loaded_so =
      let l = loaded_line event kind number rows in
      let at = (n - 1) * line_size in
      rw (append_assoc before l (end_of n), ← drop-drop word_place at (before ++ (l ++ end_of n)))
      (rw (drop_at before (l ++ end_of n) at sized, line_so) (eq_same loaded_text))

  pub printed_whole : whole_by n ((before ++ loaded_line event kind number rows) ++ end_of n) ≡ true
  unfolding whole_by
  printed_whole = rw (le-leb 1 n some, le-leb n most_events few, eq-eqb _ _ all_length, ends_so, loaded_so)
