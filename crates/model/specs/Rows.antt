-- "The eleven-row table", and when a row may come. Row r is bit r - 1 of the set of rows taken.
use Rattle.std.specs.Prelude.{ℕ, suc, ◌+◌, ◌-◌, ◌/◌, ◌%◌, ◌^◌, Bool, true, false, cond, not, ◌&&◌, ◌||◌, List, [], ◌∷◌, eqb, ltb, leb, get_or, take}
use Rattle.std.specs.Int.Count.{ones}
use Rattle.model.specs.declared.Row.{Row}

-- the longest value that a header can tell; a secret's; '3100': a descriptor's 18 bytes, 31 times at most
abbrev pub longest : ℕ
longest = 0xFFFE

abbrev pub secret_room : ℕ
secret_room = 64

abbrev pub descriptor_size : ℕ
descriptor_size = 18

abbrev pub table_room : ℕ
table_room = 558

abbrev pub plain_row : ℕ → Bool → ℕ → ℕ → Row
plain_row tag must least most = record {
  first = tag;
  last = tag;
  mandatory = must;
  spans = false;
  least = least;
  most
      = most;
  step = 1;
}

abbrev pub table_row : Row
table_row = record {
  first = 0x3100;
  last = 0x3100;
  mandatory = true;
  spans = true;
  least = descriptor_size;
  most =
      table_room;
  step = descriptor_size;
}

-- the record that the tag names bounds the length of 'ssnn' further (rule f)
abbrev pub record_row : Row
record_row = record {
  first = 0x0100;
  last = 0x1EFF;
  mandatory = false;
  spans = true;
  least = 0;
  most = longest;
  step =
      1;
}

-- "1 '9484'; 2 '2000'; 3 '2100'; 4 '2200' optional; 5 '3100'; 6 '3800'; 7 '4101'; 8 '4102'; 9 '4103'; 10 '4104'
-- optional; 11 'ssnn', '0100' to '1EFF', optional", with the lengths of rule f and the spanning of rule g
unfoldable pub row_table : List Row
row_table =
    plain_row 0x9484 true 0 0
    ∷ plain_row 0x2000 true 8 8
    ∷ plain_row 0x2100 true 7 7
    ∷ plain_row 0x2200 false 3 3
    ∷ table_row
    ∷ plain_row 0x3800 true 1 secret_room
    ∷ plain_row 0x4101 true 1 secret_room
    ∷ plain_row 0x4102 true 1 secret_room
    ∷ plain_row 0x4103 true 1 secret_room
    ∷ plain_row 0x4104 false 1 secret_room
    ∷ record_row
    ∷ []

-- row r of the table, from 1; past the table there is none
abbrev pub no_row : Row
no_row = record { first = 0; last = 0; mandatory = false; spans = false; least = 0; most = 0; step = 0 }

unfoldable pub row_at : ℕ → Row
row_at r = get_or row_table (r - 1) no_row

abbrev pub in_row : ℕ → Row → Bool
in_row tag x = leb x.first tag && leb tag x.last

-- the row of a tag, of rows that count from r; 0: unknown
unfoldable pub row_from : ℕ → ℕ → List Row → ℕ
row_from tag r [] = 0
row_from tag r (x ∷ xs) = let later = row_from tag (suc r) xs in cond (in_row tag x) r later

unfoldable pub row_of : ℕ → ℕ
row_of tag = row_from tag 1 row_table

abbrev pub bit : ℕ → ℕ
bit r = 2 ^ (r - 1)

unfoldable pub taken : ℕ → ℕ → Bool
taken rows r = eqb (rows / bit r % 2) 1

-- the set with row r
unfoldable pub with_row : ℕ → ℕ → ℕ
with_row rows r = cond (taken rows r) rows (rows + bit r)

-- a mandatory row is missing among rows that count from r
unfoldable pub missing_from : ℕ → ℕ → List Row → Bool
missing_from rows r [] = false
missing_from rows r (x ∷ xs) = (x.mandatory && not (taken rows r)) || missing_from rows (suc r) xs

unfoldable pub mandatory_missing : ℕ → Bool
mandatory_missing rows = missing_from rows 1 row_table

-- "all mandatory rows before it are taken"
unfoldable pub ready_for : ℕ → ℕ → Bool
ready_for rows r = not (missing_from rows 1 (take (r - 1) row_table))

-- "and neither it nor a later one is"
unfoldable pub none_from : ℕ → ℕ → Bool
none_from rows r = eqb (rows / bit r) 0

-- "Row 11 repeats, its tags strictly rising." The last tag is read only where row 11 is taken.
unfoldable pub rising : ℕ → ℕ → ℕ → Bool
rising rows last tag = not (taken rows 11) || ltb last tag

-- "A row may come when all mandatory rows before it are taken and neither it nor a later one is."
unfoldable pub due : ℕ → ℕ → ℕ → ℕ → Bool
due rows last r tag = ready_for rows r && cond (eqb r 11) (rising rows last tag) (none_from rows r)

-- "how many rows have been taken, counted from the set itself"
abbrev pub taken_of : ℕ → ℕ
taken_of rows = ones rows
