-- A register that is whole, and of a loaded card: which cards a lot that is resumed leaves alone.
use Rattle.std.specs.Prelude.{ℕ, ◌+◌, ◌*◌, ◌-◌, ◌/◌, Bool, cond, ◌&&◌, List, ◌∷◌, ◌++◌, eqb, leb, length}
use Rattle.lists.specs.Bytes.{part, same}
use Rattle.model.specs.Lines.{blank, hex2, hex4, end_of}

-- a line's characters, and those of END with its number
abbrev pub line_size : ℕ
line_size = 26

abbrev pub end_size : ℕ
end_size = 10

-- END tells five digits
abbrev pub most_events : ℕ
most_events = 99999

-- where a line tells its word, and then GP and internal
abbrev pub word_place : ℕ
word_place = 12

-- the event is answered '9000', and the card is then '07' and 'A5': ten characters, `9000 07 A5`
abbrev pub loaded_text : List ℕ
loaded_text = hex4 0x9000 ++ blank ∷ hex2 0x07 ++ blank ∷ hex2 0xA5

abbrev pub loaded_size : ℕ
loaded_size = 10

-- what stands behind n lines is END and n
unfoldable pub ends_as : ℕ → List ℕ → Bool
ends_as n s = same (part s (n * line_size) end_size) (end_of n)

-- the last of n lines is of a loaded card
unfoldable pub last_loaded : ℕ → List ℕ → Bool
last_loaded n s = same (part s ((n - 1) * line_size + word_place) loaded_size) loaded_text

-- whole, and of a loaded card, by n events
unfoldable pub whole_by : ℕ → List ℕ → Bool
whole_by n s =
    leb 1 n && (leb n most_events && (eqb (length s) (n * line_size + end_size) && (ends_as n s && last_loaded n s)))

-- how many lines stand before END; by no other number can a register be whole (proofs/Counts, `whole_lines`)
abbrev pub lines_in : List ℕ → ℕ
lines_in s = (length s - end_size) / line_size

-- the length is 26 n + 10 for some n from 1 to 99,999, the last 10 characters are END and n, and characters 12 to
-- 21 of the last line are `9000 07 A5`
unfoldable pub whole_register : List ℕ → Bool
whole_register s = whole_by (lines_in s) s

-- how many events a whole register tells; 0 where it is not whole
unfoldable pub events_whole : List ℕ → ℕ
events_whole s = cond (whole_register s) (lines_in s) 0
