-- A grouping's header, computed at the edges of both length forms, and the order's reader with its two endings.
use Prim.Native.Nat.{ℕ}
use mathlib.Core.Bool.{Bool}
use mathlib.Core.List.{List, [], ◌∷◌}
use lib.Dec.{T}
use Rattle.lists.specs.Bytes.{same, zeros}
use Rattle.model.specs.Header.{header_of}
use Rattle.model.specs.Order.{pull_of}
use Rattle.model.proofs.Scenes.{Bytes}
use Rattle.model.proofs.Tables.{every, header_numbers, pulled_numbers, tabled}

-- bytes whose header has this tag, takes so many bytes itself, and tells this length
abbrev pub heads : Bytes → ℕ → ℕ → ℕ → Bool
heads b tag size len = same (header_numbers (header_of b)) (tag ∷ size ∷ len ∷ [])

-- bytes whose header rule a refuses
abbrev pub torn : Bytes → Bool
torn b = same (header_numbers (header_of b)) []

unfoldable pub headers : List Bool
headers =
    torn [] ∷ torn (0x20 ∷ []) ∷ torn (0x20 ∷ 0x00 ∷ []) ∷ torn (0 ∷ 0 ∷ [])
    -- "length 1 byte ('00' to 'FE')"
    ∷ heads (0x20 ∷ 0x00 ∷ 0x00 ∷ []) 0x2000 3 0
    ∷ heads (0x41 ∷ 0x02 ∷ 0x01 ∷ []) 0x4102 3 1
    ∷ heads (0x1E ∷ 0xFF ∷ 0xFD ∷ 0x01 ∷ []) 0x1EFF 3 253
    ∷ heads (0x01 ∷ 0x00 ∷ 0xFE ∷ 0xFF ∷ 0xFF ∷ []) 0x0100 3 254
    -- "or 'FF' and 2 bytes ('0000' to 'FFFE'; short values allowed)"
    ∷ torn (0x20 ∷ 0x00 ∷ 0xFF ∷ []) ∷ torn (0x20 ∷ 0x00 ∷ 0xFF ∷ 0x00 ∷ [])
    ∷ heads (0x20 ∷ 0x00 ∷ 0xFF ∷ 0x00 ∷ 0x00 ∷ []) 0x2000 5 0
    ∷ heads (0x20 ∷ 0x01 ∷ 0xFF ∷ 0x00 ∷ 0x08 ∷ 0x77 ∷ []) 0x2001 5 8
    ∷ heads (0x31 ∷ 0x00 ∷ 0xFF ∷ 0x02 ∷ 0x2E ∷ []) 0x3100 5 558
    ∷ heads (0x20 ∷ 0x00 ∷ 0xFF ∷ 0xFF ∷ 0xFC ∷ []) 0x2000 5 0xFFFC
    ∷ heads (0x20 ∷ 0x00 ∷ 0xFF ∷ 0xFF ∷ 0xFD ∷ []) 0x2000 5 0xFFFD
    ∷ heads (0xFF ∷ 0xFF ∷ 0xFF ∷ 0xFF ∷ 0xFE ∷ []) 0xFFFF 5 0xFFFE
    ∷ torn (0x20 ∷ 0x00 ∷ 0xFF ∷ 0xFF ∷ 0xFF ∷ [])
    ∷ torn (0x20 ∷ 0x00 ∷ 0xFF ∷ 0xFF ∷ 0xFF ∷ 0x00 ∷ [])
    ∷ []

-- a pull of an order at a place: ended, broken, or a tag with its value's place and length
abbrev pub ends_at : Bytes → ℕ → Bool
ends_at o at = same (pulled_numbers (pull_of o at)) (0 ∷ [])

abbrev pub breaks_at : Bytes → ℕ → Bool
breaks_at o at = same (pulled_numbers (pull_of o at)) (1 ∷ [])

abbrev pub pulls_at : Bytes → ℕ → ℕ → ℕ → ℕ → Bool
pulls_at o at tag start len = same (pulled_numbers (pull_of o at)) (2 ∷ tag ∷ start ∷ len ∷ [])

-- '5000' of two bytes, '84F2' of none in the long form, '0801' of one in the long form
abbrev pub order : Bytes
order = 0x50 ∷ 0x00 ∷ 2 ∷ 0x11 ∷ 0x22 ∷ 0x84 ∷ 0xF2 ∷ 0xFF ∷ 0 ∷ 0 ∷ 0x08 ∷ 0x01 ∷ 0xFF ∷ 0 ∷ 1 ∷ 0x33 ∷ []

unfoldable pub pulls : List Bool
pulls =
    pulls_at order 0 0x5000 3 2 ∷ pulls_at order 5 0x84F2 10 0 ∷ pulls_at order 10 0x0801 15 1
    -- "At or past the end"
    ∷ ends_at order 16 ∷ ends_at order 17 ∷ ends_at [] 0 ∷ ends_at [] 1
    -- "or where a header (rule a) or a value isn't whole"
    ∷ breaks_at order 14 ∷ breaks_at order 15 ∷ breaks_at (0 ∷ 0 ∷ []) 0
    ∷ breaks_at (0x20 ∷ 0x00 ∷ 2 ∷ 0x11 ∷ []) 0 ∷ pulls_at (0x20 ∷ 0x00 ∷ 1 ∷ 0x11 ∷ []) 0 0x2000 3 1
    ∷ breaks_at (0x20 ∷ 0x00 ∷ 0xFF ∷ 0 ∷ 2 ∷ 0x11 ∷ []) 0
    ∷ breaks_at (0x20 ∷ 0x00 ∷ 0xFF ∷ 0xFF ∷ 0xFF ∷ zeros 9) 0
    ∷ breaks_at (0x99 ∷ 0x20 ∷ 0x00 ∷ 2 ∷ 0x11 ∷ []) 1
    ∷ pulls_at (0x99 ∷ 0x20 ∷ 0x00 ∷ 2 ∷ 0x11 ∷ 0x22 ∷ []) 1 0x2000 4 2
    ∷ []

pub headers_right : T (every headers)
unfolding tabled headers
headers_right = tt

pub pulls_right : T (every pulls)
unfolding tabled pulls
pulls_right = tt
