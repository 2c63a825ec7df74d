-- How many events a register tells: no other number of lines can make it whole.
use Prim.Native.Nat.{ℕ, ◌+◌, ◌*◌, ◌≤◌, ◌<◌}
use mathlib.Core.Path.{◌≡◌}
use mathlib.Core.Bool.{true, false, ◌&&◌}
use mathlib.Core.List.{List}
use native.Mathlib.Omega.{arith}
use lib.Dec.{eqb, leb}
use lib.ListN.{length}
use borrow.Author.Tests.{eqb-true, leb-true, le-leb, lt-leb, eq-eqb, ne_eqb}
use Rattle.register_whole.specs.Whole.{line_size, end_size, most_events, ends_as, last_loaded, whole_by, lines_in}
use Rattle.register_whole.specs.Whole.{whole_register, events_whole}
use Rattle.lists.specs.Truth.{both}

module _ (n : ℕ) (s : List ℕ) (so : whole_by n s ≡ true) where
  numbers : (1 ≤ n) × (length s ≡ n * line_size + end_size)
  unfolding whole_by
  numbers =
      let p = both (leb 1 n) so in
      let q = both (leb n most_events) p.1 in
      let r = both (eqb (length s) (n * line_size + end_size)) q.1 in
      (leb-true 1 n p.0, eqb-true _ _ r.0)

  -- the length says how many lines there are
  pub whole_lines : lines_in s ≡ n
  whole_lines = let h = numbers in omega arith

  pub whole_events : events_whole s ≡ n
  unfolding events_whole whole_register
  whole_events = rw (whole_lines, so)

  pub whole_so : whole_register s ≡ true
  unfolding whole_register
  whole_so = rw whole_lines so

  -- so 0 is the answer of no whole register
  pub whole_some : 1 ≤ events_whole s
  whole_some = rw whole_events numbers.0

-- and a register that is whole by no number tells none
pub not_whole : (s : List ℕ) → whole_register s ≡ false → events_whole s ≡ 0
unfolding events_whole
not_whole s e = rw e

-- The tests of the code, in its order.
module _ (s : List ℕ) where
  pub too_short : length s < 36 → 0 ≡ events_whole s
  unfolding events_whole whole_register whole_by
  too_short h = rw (lt-leb 1 (lines_in s) (omega arith))

  module _ (sized : 36 ≤ length s) where
    some_lines : leb 1 (lines_in s) ≡ true
    some_lines = le-leb 1 (lines_in s) (omega arith)

    pub too_many : most_events < lines_in s → 0 ≡ events_whole s
    unfolding events_whole whole_register whole_by
    too_many h = rw (some_lines, lt-leb (lines_in s) most_events h)

    module _ (few : lines_in s ≤ most_events) where
      pub torn : (length s ≡ lines_in s * line_size + end_size → ⊥) → 0 ≡ events_whole s
      unfolding events_whole whole_register whole_by
      torn n = rw (
        some_lines,
        le-leb (lines_in s) most_events few,
        ne_eqb (length s) (lines_in s * line_size + end_size) n,
      )

      module _ (even : length s ≡ lines_in s * line_size + end_size) where
        by_text : whole_register s ≡ (ends_as (lines_in s) s && last_loaded (lines_in s) s)
        unfolding whole_register whole_by
        by_text =
            rw (
              some_lines,
              le-leb (lines_in s) most_events few,
              eq-eqb (length s) (lines_in s * line_size + end_size) even,
            )

        pub other_end : ends_as (lines_in s) s ≡ false → 0 ≡ events_whole s
        unfolding events_whole
        other_end e = rw (by_text, e)

        pub not_loaded : ends_as (lines_in s) s ≡ true → last_loaded (lines_in s) s ≡ false → 0 ≡ events_whole s
        unfolding events_whole
        not_loaded e f = rw (by_text, e, f)

        pub told : ends_as (lines_in s) s ≡ true → last_loaded (lines_in s) s ≡ true → lines_in s ≡ events_whole s
        unfolding events_whole
        told e f = rw (by_text, e, f)
