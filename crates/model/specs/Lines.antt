-- "The program `replay`": the characters that it prints.
use Rattle.std.specs.Prelude.{ℕ, suc, ◌+◌, ◌/◌, ◌%◌, min, cond, List, [], ◌∷◌, ◌++◌, ltb, take, drop}
use Rattle.lists.specs.Bytes.{byte_at, zeros}
use Rattle.model.specs.declared.Card.{Card}
use Rattle.model.specs.Stored.{chip_size, chip_of, chip_form, fresh_card, area_size, answer_room}
use Rattle.model.specs.Rows.{taken_of}
use Rattle.model.specs.Session.{play_of, records_in, events_in}

-- a decimal digit, and a hexadecimal one in capitals
abbrev pub digit : ℕ → ℕ
digit d = 0x30 + d

abbrev pub hex_digit : ℕ → ℕ
hex_digit d = cond (ltb d 10) (digit d) (0x37 + d)

abbrev pub two : ℕ → List ℕ
two n = digit (n / 10 % 10) ∷ digit (n % 10) ∷ []

-- "five decimal digits, the last five if longer"
abbrev pub five : ℕ → List ℕ
five n = digit (n / 10000 % 10) ∷ digit (n / 1000 % 10) ∷ digit (n / 100 % 10) ∷ two n

abbrev pub hex2 : ℕ → List ℕ
hex2 b = hex_digit (b / 16 % 16) ∷ hex_digit (b % 16) ∷ []

abbrev pub hex4 : ℕ → List ℕ
hex4 w = hex2 (w / 256) ++ hex2 (w % 256)

abbrev pub blank : ℕ
blank = 0x20

abbrev pub line_feed : ℕ
line_feed = 0x0A

-- "Fields: event number .., kind and refusal number (two decimal digits; a kind byte over 99 as 99), word, GP and
-- internal (hexadecimal capitals), rows taken (two decimal digits), a blank between"
unfoldable pub line_with : ℕ → ℕ → ℕ → ℕ → ℕ → ℕ → ℕ → List ℕ
line_with n kind number word gp internal rows =
    five n ++ blank ∷ two (min kind 99) ++ blank ∷ two number ++ blank ∷ hex4 word
    ++ blank ∷ hex2 gp ++ blank ∷ hex2 internal ++ blank ∷ two (taken_of rows) ++ line_feed ∷ []

abbrev pub line_of : ℕ → ℕ → ℕ → ℕ → Card → List ℕ
line_of n kind number word c = line_with n kind number word c.life.gp c.loading.running.internal
    c.loading.running.rows

-- "last END and the number of events, in five digits as above"
unfoldable pub end_of : ℕ → List ℕ
end_of n = 0x45 ∷ 0x4E ∷ 0x44 ∷ blank ∷ five n ++ line_feed ∷ []

-- the lines from event n + 1 on
unfoldable pub lines_from : ℕ → Card → List ℕ → List (List ℕ) → List ℕ
lines_from n c a [] = end_of n
lines_from n c a (r ∷ rs) =
    let t = play_of c a answer_room r in
    line_of (suc n) (byte_at r 0) t.number t.word t.card ++ lines_from (suc n) t.card t.area rs

-- "reads a chip record and then event records .. A torn last record is not an event; with a refused chip record only
-- END 00000 is printed."
unfoldable pub replay_of : List ℕ → List ℕ
replay_of input =
    cond (chip_form (take chip_size input))
    (lines_from 0 (fresh_card (chip_of (take chip_size input))) (zeros area_size)
    (records_in (events_in (drop chip_size input)) (drop chip_size input)))
    (end_of 0)
