-- Short texts, and what they give.
use Prim.Native.Nat.{ℕ}
use mathlib.Core.Path.{◌≡◌, refl}
use mathlib.Core.List.{List, [], ◌∷◌}
use Rattle.std.specs.Prelude.{Option, None, Some}
use Rattle.job_text.specs.Characters.{sort_of}
use Rattle.job_text.specs.declared.Fault.{Fault}
use Rattle.job_text.specs.declared.Fault.TheVariants.{NoDigit, HalfByte}
use Rattle.job_text.specs.Text.{place_from, bytes_from, lines_from, Told, Text, text_of}

given : List ℕ → List ℕ → Option Told → Text
given bs ls f = record { bytes = bs; lines = ls; fault = f }

fault : Fault → ℕ → ℕ → Option Told
fault kind line column = Some (record { kind = kind; line = line; column = column })

-- a mark, `0aF1 #7`, a line feed, a tab, `7f`, CR and line feed
two_lines : text_of (0xEF ∷ 0xBB ∷ 0xBF ∷ 0x30 ∷ 0x61 ∷ 0x46 ∷ 0x31 ∷ 0x20 ∷ 0x23 ∷ 0x37 ∷ 0x0A ∷ 0x09 ∷ 0x37 ∷ 0x66 ∷
    0x0D ∷ 0x0A ∷ []) ≡ given (0x0A ∷ 0xF1 ∷ 0x7F ∷ []) (1 ∷ 1 ∷ 2 ∷ []) None
unfolding given fault sort_of place_from bytes_from lines_from
two_lines = refl

-- nothing; `#` and the end
empty : text_of [] ≡ given [] [] None
unfolding given fault sort_of place_from bytes_from lines_from
empty = refl

comment_at_the_end : text_of (0x23 ∷ 0x67 ∷ []) ≡ given [] [] None
unfolding given fault sort_of place_from bytes_from lines_from
comment_at_the_end = refl

-- `12`, a line feed, ` 3 4`: half a byte at line 2, column 2
half_a_byte : text_of (0x31 ∷ 0x32 ∷ 0x0A ∷ 0x20 ∷ 0x33 ∷ 0x20 ∷ 0x34 ∷ [])
    ≡ given (0x12 ∷ []) (1 ∷ []) (fault HalfByte 2 2)
unfolding given fault sort_of place_from bytes_from lines_from
half_a_byte = refl

-- ` 7`: half a byte at the end
half_at_the_end : text_of (0x20 ∷ 0x37 ∷ []) ≡ given [] [] (fault HalfByte 1 2)
unfolding given fault sort_of place_from bytes_from lines_from
half_at_the_end = refl

-- `1g2`: `g` is no digit
no_digit_lem : text_of (0x31 ∷ 0x67 ∷ 0x32 ∷ []) ≡ given [] [] (fault NoDigit 1 2)
unfolding given fault sort_of place_from bytes_from lines_from
no_digit_lem = refl

-- a mark that is torn, one that is wrong, and one behind a byte
torn_mark : text_of (0xEF ∷ 0xBB ∷ []) ≡ given [] [] (fault NoDigit 1 1)
unfolding given fault sort_of place_from bytes_from lines_from
torn_mark = refl

wrong_mark : text_of (0xEF ∷ 0xBB ∷ 0x31 ∷ 0x32 ∷ []) ≡ given [] [] (fault NoDigit 1 1)
unfolding given fault sort_of place_from bytes_from lines_from
wrong_mark = refl

late_mark : text_of (0x31 ∷ 0x32 ∷ 0xEF ∷ 0xBB ∷ 0xBF ∷ []) ≡ given (0x12 ∷ []) (1 ∷ []) (fault NoDigit 1 3)
unfolding given fault sort_of place_from bytes_from lines_from
late_mark = refl
