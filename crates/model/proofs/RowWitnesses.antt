-- "The eleven-row table", computed: tags at both sides, marks and lengths of each row, and when a row may come.
use Prim.Native.Nat.{ℕ}
use mathlib.Core.Bool.{Bool, not}
use mathlib.Core.List.{List, [], ◌∷◌}
use lib.Dec.{T, eqb}
use Rattle.lists.specs.Bytes.{same}
use Rattle.model.specs.Rows.{row_at, row_of, taken, with_row, mandatory_missing, taken_of}
use Rattle.model.specs.Rules.{due_row, length_ok}
use Rattle.model.proofs.Tables.{every, row_numbers, verdict_number, tabled}

-- row r: first and last tag, mandatory, may run on, least and most bytes, a multiple of
abbrev pub row_is : ℕ → ℕ → ℕ → ℕ → ℕ → ℕ → ℕ → ℕ → Bool
row_is r first last must spans least most step =
    same (row_numbers (row_at r)) (first ∷ last ∷ must ∷ spans ∷ least ∷ most ∷ step ∷ [])

unfoldable pub rows : List Bool
rows =
    row_is 1 0x9484 0x9484 1 0 0 0 1
    ∷ row_is 2 0x2000 0x2000 1 0 8 8 1
    ∷ row_is 3 0x2100 0x2100 1 0 7 7 1
    ∷ row_is 4 0x2200 0x2200 0 0 3 3 1
    ∷ row_is 5 0x3100 0x3100 1 1 18 558 18
    ∷ row_is 6 0x3800 0x3800 1 0 1 64 1
    ∷ row_is 7 0x4101 0x4101 1 0 1 64 1
    ∷ row_is 8 0x4102 0x4102 1 0 1 64 1
    ∷ row_is 9 0x4103 0x4103 1 0 1 64 1
    ∷ row_is 10 0x4104 0x4104 0 0 1 64 1
    ∷ row_is 11 0x0100 0x1EFF 0 1 0 0xFFFE 1
    ∷ row_is 12 0 0 0 0 0 0 0
    ∷ []

abbrev pub tag_is : ℕ → ℕ → Bool
tag_is tag row = eqb (row_of tag) row

unfoldable pub tags : List Bool
tags =
    tag_is 0x9483 0 ∷ tag_is 0x9484 1 ∷ tag_is 0x9485 0
    ∷ tag_is 0x1FFF 0 ∷ tag_is 0x2000 2 ∷ tag_is 0x2001 0
    ∷ tag_is 0x20FF 0 ∷ tag_is 0x2100 3 ∷ tag_is 0x2101 0
    ∷ tag_is 0x21FF 0 ∷ tag_is 0x2200 4 ∷ tag_is 0x2201 0
    ∷ tag_is 0x30FF 0 ∷ tag_is 0x3100 5 ∷ tag_is 0x3101 0
    ∷ tag_is 0x37FF 0 ∷ tag_is 0x3800 6 ∷ tag_is 0x3801 0
    ∷ tag_is 0x4100 0 ∷ tag_is 0x4101 7 ∷ tag_is 0x4102 8 ∷ tag_is 0x4103 9 ∷ tag_is 0x4104 10 ∷ tag_is 0x4105 0
    ∷ tag_is 0x0000 0 ∷ tag_is 0x00FF 0 ∷ tag_is 0x0100 11 ∷ tag_is 0x0101 11
    ∷ tag_is 0x1EFE 11 ∷ tag_is 0x1EFF 11 ∷ tag_is 0x1F00 0
    ∷ tag_is 0x8185 0 ∷ tag_is 0x84F2 0 ∷ tag_is 0xFFFF 0
    ∷ []

-- the set of rows taken: row r is bit r - 1
unfoldable pub sets : List Bool
sets =
    taken 0x001 1 ∷ not (taken 0x7FE 1) ∷ taken 0x002 2 ∷ not (taken 0x7FD 2)
    ∷ taken 0x400 11 ∷ not (taken 0x3FF 11)
    ∷ eqb (with_row 0 1) 0x001 ∷ eqb (with_row 0x001 1) 0x001 ∷ eqb (with_row 0x001 2) 0x003
    ∷ eqb (with_row 0x3FF 11) 0x7FF ∷ eqb (with_row 0x7FF 11) 0x7FF
    ∷ eqb (taken_of 0) 0 ∷ eqb (taken_of 0x7FF) 11 ∷ eqb (taken_of 0x5F7) 9 ∷ eqb (taken_of 0xFFFF) 16
    -- the mandatory rows are 1, 2, 3, 5, 6, 7, 8 and 9
    ∷ not (mandatory_missing 0x1F7) ∷ not (mandatory_missing 0x7FF)
    ∷ mandatory_missing 0x7FE ∷ mandatory_missing 0x7FD ∷ mandatory_missing 0x7FB ∷ not (mandatory_missing 0x7F7)
    ∷ mandatory_missing 0x7EF ∷ mandatory_missing 0x7DF ∷ mandatory_missing 0x7BF ∷ mandatory_missing 0x77F
    ∷ mandatory_missing 0x6FF ∷ not (mandatory_missing 0x5FF) ∷ not (mandatory_missing 0x3FF)
    ∷ []

-- rule d of a tag on a set of rows with a last 'ssnn': the row that comes, or the word
abbrev pub comes : ℕ → ℕ → ℕ → ℕ → Bool
comes set last tag w = eqb (verdict_number (due_row set last tag)) w

unfoldable pub dues : List Bool
dues =
    comes 0x000 0 0x9484 1 ∷ comes 0x001 0 0x9484 0x6985 ∷ comes 0x002 0 0x9484 0x6985 ∷ comes 0x400 0 0x9484 0x6985
    ∷ comes 0x001 0 0x2000 2 ∷ comes 0x000 0 0x2000 0x6985 ∷ comes 0x003 0 0x2000 0x6985
    ∷ comes 0x005 0 0x2000 0x6985
    ∷ comes 0x003 0 0x2100 3 ∷ comes 0x001 0 0x2100 0x6985 ∷ comes 0x002 0 0x2100 0x6985
    ∷ comes 0x007 0 0x2100 0x6985 ∷ comes 0x00B 0 0x2100 0x6985
    ∷ comes 0x007 0 0x2200 4 ∷ comes 0x003 0 0x2200 0x6985 ∷ comes 0x00F 0 0x2200 0x6985
    ∷ comes 0x017 0 0x2200 0x6985
    ∷ comes 0x007 0 0x3100 5 ∷ comes 0x00F 0 0x3100 5 ∷ comes 0x00B 0 0x3100 0x6985 ∷ comes 0x01F 0 0x3100 0x6985
    ∷ comes 0x027 0 0x3100 0x6985
    ∷ comes 0x017 0 0x3800 6 ∷ comes 0x01F 0 0x3800 6 ∷ comes 0x00F 0 0x3800 0x6985 ∷ comes 0x037 0 0x3800 0x6985
    ∷ comes 0x057 0 0x3800 0x6985
    ∷ comes 0x037 0 0x4101 7 ∷ comes 0x01F 0 0x4101 0x6985 ∷ comes 0x07F 0 0x4101 0x6985
    ∷ comes 0x0BF 0 0x4101 0x6985
    ∷ comes 0x077 0 0x4102 8 ∷ comes 0x03F 0 0x4102 0x6985 ∷ comes 0x0FF 0 0x4102 0x6985
    ∷ comes 0x0F7 0 0x4103 9 ∷ comes 0x07F 0 0x4103 0x6985 ∷ comes 0x1F7 0 0x4103 0x6985
    ∷ comes 0x1F7 0 0x4104 10 ∷ comes 0x0FF 0 0x4104 0x6985 ∷ comes 0x3F7 0 0x4104 0x6985
    ∷ comes 0x5F7 0 0x4104 0x6985
    -- row 11, first and again: "its tags strictly rising"
    ∷ comes 0x1F7 0 0x0100 11 ∷ comes 0x3FF 0 0x1EFF 11 ∷ comes 0x0F7 0 0x0801 0x6985 ∷ comes 0x1E7 0 0x0801 0x6985
    ∷ comes 0x1F7 0x0801 0x0801 11 ∷ comes 0x1F7 0x0801 0x0800 11
    ∷ comes 0x5F7 0x0801 0x0800 0x6985 ∷ comes 0x5F7 0x0801 0x0801 0x6985 ∷ comes 0x5F7 0x0801 0x0802 11
    ∷ comes 0x4F7 0x0801 0x0802 0x6985
    -- "Unknown tag '6A88'", whatever is taken
    ∷ comes 0x000 0 0x5000 0x6A88 ∷ comes 0x7FF 0 0x1F00 0x6A88 ∷ comes 0x1F7 0 0x00FF 0x6A88
    ∷ []

-- rule f of row r whose record or row allows so many bytes
unfoldable pub lengths : List Bool
lengths =
    not (length_ok 2 8 7) ∷ length_ok 2 8 8 ∷ not (length_ok 2 8 9)
    ∷ not (length_ok 3 7 6) ∷ length_ok 3 7 7 ∷ not (length_ok 3 7 8)
    ∷ not (length_ok 4 3 2) ∷ length_ok 4 3 3 ∷ not (length_ok 4 3 4)
    ∷ not (length_ok 5 558 0) ∷ not (length_ok 5 558 17) ∷ length_ok 5 558 18 ∷ not (length_ok 5 558 19)
    ∷ not (length_ok 5 558 35) ∷ length_ok 5 558 36 ∷ length_ok 5 558 540 ∷ not (length_ok 5 558 557)
    ∷ length_ok 5 558 558 ∷ not (length_ok 5 558 559) ∷ not (length_ok 5 558 576)
    ∷ not (length_ok 6 64 0) ∷ length_ok 6 64 1 ∷ length_ok 6 64 64 ∷ not (length_ok 6 64 65)
    ∷ not (length_ok 7 64 0) ∷ length_ok 7 64 1 ∷ length_ok 7 64 64 ∷ not (length_ok 7 64 65)
    ∷ not (length_ok 8 64 0) ∷ length_ok 8 64 1 ∷ length_ok 8 64 64 ∷ not (length_ok 8 64 65)
    ∷ not (length_ok 9 64 0) ∷ length_ok 9 64 1 ∷ length_ok 9 64 64 ∷ not (length_ok 9 64 65)
    ∷ not (length_ok 10 64 0) ∷ length_ok 10 64 1 ∷ length_ok 10 64 64 ∷ not (length_ok 10 64 65)
    ∷ length_ok 11 29 0 ∷ length_ok 11 29 1 ∷ length_ok 11 29 28 ∷ length_ok 11 29 29 ∷ not (length_ok 11 29 30)
    ∷ []

pub rows_right : T (every rows)
unfolding tabled rows
rows_right = tt

pub tags_right : T (every tags)
unfolding tabled tags
tags_right = tt

pub sets_right : T (every sets)
unfolding tabled sets
sets_right = tt

pub dues_right : T (every dues)
unfolding tabled dues
dues_right = tt

pub lengths_right : T (every lengths)
unfolding tabled lengths
lengths_right = tt
