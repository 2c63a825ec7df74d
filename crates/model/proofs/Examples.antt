-- "Numbered examples": the twelve, every part of each, and the sample of `replay`, computed from the definition.
use Prim.Native.Nat.{ℕ, ◌+◌}
use mathlib.Core.Bool.{Bool, true, ◌&&◌}
use mathlib.Core.List.{List, [], ◌∷◌, ◌++◌}
use lib.Dec.{T, eqb}
use lib.ListN.{length, replicate}
use Rattle.lists.specs.Bytes.{same, zeros}
use Rattle.model.specs.declared.Header.{Header}
use Rattle.model.specs.declared.Header.TheVariants.{Torn, Whole}
use Rattle.model.specs.Stored.{Event}
use Rattle.model.specs.Header.{header_of}
use Rattle.model.specs.Table.{descriptor_of, size_of}
use Rattle.model.specs.Order.{complete, cut_of}
use Rattle.model.specs.Lines.{replay_of}
use Rattle.model.proofs.Computed.{computed}
use Rattle.model.proofs.Scenes.{Bytes, chip, select, command, challenge, status, serial, startup, counter, key}
use Rattle.model.proofs.Scenes.{table, df, ef, linear, begun, asked, loads, loaded, Claim, words, ends, rows}
use Rattle.model.proofs.Scenes.{answer, starts, descriptors, stored, secret, count, shows, records_of}

-- how an example is stated
pub data Example : Type 0 where
  -- a length's bytes, and the length that they tell
  tells : Bytes → ℕ → Example
  -- a length's bytes that tell none
  tells_none : Bytes → Example
  -- a descriptor and its file's size
  takes : Bytes → ℕ → Example
  -- a session of a fresh card of a capacity, and what is claimed of it and of its last event
  plays : ℕ → List Event → List Claim → Example
  -- an order, complete at capacity 10, and the lengths of the first commands that it is cut into
  cuts : Bytes → List ℕ → Example
  -- a session and what `replay` prints of it
  prints : ℕ → List Event → Bytes → Example

unfoldable pub telling : Header → ℕ
telling Torn = 0x10000
telling (Whole h) = h.len

unfoldable pub lengths_of : List Bytes → List ℕ
lengths_of [] = []
lengths_of (x ∷ xs) = length x ∷ lengths_of xs

unfoldable pub right : Example → Bool
right (tells b n) = eqb (telling (header_of (0x20 ∷ 0x00 ∷ b))) n
right (tells_none b) = eqb (telling (header_of (0x20 ∷ 0x00 ∷ b))) 0x10000
right (takes d n) = eqb (size_of (descriptor_of d)) n
right (plays capacity es xs) = shows capacity es xs
right (cuts o ls) = complete 10 o && same (lengths_of (cut_of o)) ls
right (prints capacity es text) = same (replay_of (chip capacity ++ records_of es)) text

unfoldable pub all_right : List Example → Bool
all_right [] = true
all_right (x ∷ xs) = right x && all_right xs

-- words of the three events before a loading
abbrev pub ok3 : List ℕ → List ℕ
ok3 ws = 0x9000 ∷ 0x9000 ∷ 0x9000 ∷ ws

-- "Key lengths": all before '4101', then '4101' of n bytes
abbrev pub keyed : ℕ → List Event
keyed n = loads (serial ++ startup 10 ++ table (df 0 ++ linear) ++ key 0x38 0x00 5 ++ key 0x41 0x01 n)

-- all that is mandatory, 252 bytes of it, and then '0801' of three bytes
abbrev pub brimful : Bytes
brimful =
    serial ++ startup 10 ++ table (df 0 ++ linear)
    ++ key 0x38 0x00 64 ++ key 0x41 0x01 64 ++ key 0x41 0x02 26 ++ key 0x41 0x03 26
    ++ 0x08 ∷ 0x01 ∷ 3 ∷ 0xB1 ∷ 0xB2 ∷ 0xB3 ∷ []

abbrev pub sample : Bytes
sample =
    0x30 ∷ 0x30 ∷ 0x30 ∷ 0x30 ∷ 0x31 ∷ 0x20 ∷ 0x30 ∷ 0x31 ∷ 0x20 ∷ 0x30 ∷ 0x30 ∷ 0x20 ∷ 0x39 ∷ 0x30 ∷ 0x30 ∷ 0x30 ∷
    0x20 ∷ 0x30 ∷ 0x37 ∷ 0x20 ∷ 0x43 ∷ 0x43 ∷ 0x20 ∷ 0x30 ∷ 0x30 ∷ 0x0A
    ∷ 0x30 ∷ 0x30 ∷ 0x30 ∷ 0x30 ∷ 0x32 ∷ 0x20 ∷ 0x30 ∷ 0x33 ∷ 0x20 ∷ 0x30 ∷ 0x30 ∷ 0x20 ∷ 0x39 ∷ 0x30 ∷ 0x30 ∷ 0x30 ∷
    0x20 ∷ 0x30 ∷ 0x37 ∷ 0x20 ∷ 0x43 ∷ 0x43 ∷ 0x20 ∷ 0x30 ∷ 0x30 ∷ 0x0A
    ∷ 0x30 ∷ 0x30 ∷ 0x30 ∷ 0x30 ∷ 0x33 ∷ 0x20 ∷ 0x30 ∷ 0x32 ∷ 0x20 ∷ 0x30 ∷ 0x30 ∷ 0x20 ∷ 0x39 ∷ 0x30 ∷ 0x30 ∷ 0x30 ∷
    0x20 ∷ 0x30 ∷ 0x37 ∷ 0x20 ∷ 0x43 ∷ 0x43 ∷ 0x20 ∷ 0x30 ∷ 0x31 ∷ 0x0A
    ∷ 0x30 ∷ 0x30 ∷ 0x30 ∷ 0x30 ∷ 0x34 ∷ 0x20 ∷ 0x30 ∷ 0x32 ∷ 0x20 ∷ 0x30 ∷ 0x30 ∷ 0x20 ∷ 0x39 ∷ 0x30 ∷ 0x30 ∷ 0x30 ∷
    0x20 ∷ 0x30 ∷ 0x37 ∷ 0x20 ∷ 0x43 ∷ 0x43 ∷ 0x20 ∷ 0x30 ∷ 0x31 ∷ 0x0A
    ∷ 0x30 ∷ 0x30 ∷ 0x30 ∷ 0x30 ∷ 0x35 ∷ 0x20 ∷ 0x30 ∷ 0x32 ∷ 0x20 ∷ 0x30 ∷ 0x30 ∷ 0x20 ∷ 0x36 ∷ 0x39 ∷ 0x38 ∷ 0x35 ∷
    0x20 ∷ 0x38 ∷ 0x37 ∷ 0x20 ∷ 0x35 ∷ 0x41 ∷ 0x20 ∷ 0x30 ∷ 0x31 ∷ 0x0A
    ∷ 0x30 ∷ 0x30 ∷ 0x30 ∷ 0x30 ∷ 0x36 ∷ 0x20 ∷ 0x30 ∷ 0x33 ∷ 0x20 ∷ 0x30 ∷ 0x30 ∷ 0x20 ∷ 0x36 ∷ 0x32 ∷ 0x38 ∷ 0x33 ∷
    0x20 ∷ 0x38 ∷ 0x37 ∷ 0x20 ∷ 0x35 ∷ 0x41 ∷ 0x20 ∷ 0x30 ∷ 0x31 ∷ 0x0A
    ∷ 0x45 ∷ 0x4E ∷ 0x44 ∷ 0x20 ∷ 0x30 ∷ 0x30 ∷ 0x30 ∷ 0x30 ∷ 0x36 ∷ 0x0A ∷ []

unfoldable pub examples : List Example
examples =
    -- 1. "Lengths: FE is 254; FF 01 AF is 431; FF 00 05 is 5; FF FF FF '6A80'."
    tells (0xFE ∷ []) 254
    ∷ tells (0xFF ∷ 0x01 ∷ 0xAF ∷ []) 431
    ∷ tells (0xFF ∷ 0x00 ∷ 0x05 ∷ []) 5
    ∷ tells_none (0xFF ∷ 0xFF ∷ 0xFF ∷ [])
    ∷ plays 10 (loads (0x20 ∷ 0x00 ∷ 0xFF ∷ 0xFF ∷ 0xFF ∷ [])) (words (ok3 (0x6A80 ∷ [])) ∷ [])
    -- 2. "Linear 29 x 3: 87 bytes. Binary 01 2C: 300; 00 00 '6A80'."
    ∷ takes linear 87
    ∷ takes (ef 0x07 0x01 0x01 0x2C 0 0) 300
    ∷ plays 10 (loads (serial ++ startup 10 ++ table (df 0 ++ ef 0x07 0x01 0x00 0x00 0 0)))
    (words (ok3 (0x6A80 ∷ [])) ∷ ends 0x87 0x5A ∷ descriptors 1 ∷ [])
    -- 3. "Counters RecSize 11: number 3 passes, 4 '6A80'."
    ∷ plays 10 (loads (serial ++ startup 10 ++ table (df 0 ++ ef 0x19 0x09 11 1 0 0 ++ ef 0x0A 0x08 3 1 0x19 3)))
    (words (ok3 (0x9000 ∷ [])) ∷ descriptors 3 ∷ [])
    ∷ plays 10 (loads (serial ++ startup 10 ++ table (df 0 ++ ef 0x19 0x09 11 1 0 0 ++ ef 0x0A 0x08 3 1 0x19 4)))
    (words (ok3 (0x6A80 ∷ [])) ∷ descriptors 2 ∷ [])
    -- 4. "'3100' after '2100' passes; a later '2200' '6985', locked."
    ∷ plays 10 (asked (command 0x00 (serial ++ startup 10) ∷ command 0x00 (table (df 0)) ∷ command 0x00 counter ∷ []))
    (words (ok3 (0x9000 ∷ 0x9000 ∷ 0x6985 ∷ [])) ∷ ends 0x87 0x5A ∷ count 200000 ∷ [])
    -- 5. "'0801', '0803' pass; '0801' again '6985'." The files before SFI '08' in the table lie before it.
    ∷ plays 10
    (asked
    (command 0x00
    (loaded (df 0 ++ ef 0x1E 0x02 10 2 0 0 ++ ef 0x19 0x09 6 1 0 0 ++ ef 0x0A 0x08 200 20 0x19 2 ++ linear))
    ∷ command 0x00 (0x08 ∷ 0x01 ∷ 2 ∷ 0xB1 ∷ 0xB2 ∷ [])
    ∷ command 0x00 (0x08 ∷ 0x03 ∷ 2 ∷ 0xB3 ∷ 0xB4 ∷ [])
    ∷ command 0x00 (0x08 ∷ 0x01 ∷ 2 ∷ 0xB5 ∷ 0xB6 ∷ [])
    ∷ []))
    (words (ok3 (0x9000 ∷ 0x9000 ∷ 0x9000 ∷ 0x6985 ∷ [])) ∷ stored 26 (0xB1 ∷ 0xB2 ∷ 0 ∷ []) ∷ stored (26 + 58)
    (0xB3 ∷ 0xB4 ∷ 0 ∷ []) ∷ [])
    -- 6. "Capacity 5: '6A84'. Capacity 6, asked 55: 6. Asked 5 or 56: '6A80'."
    ∷ plays 5 (loads (serial ++ startup 10)) (words (ok3 (0x6A84 ∷ [])) ∷ [])
    ∷ plays 6 (loads (serial ++ startup 55)) (words (ok3 (0x9000 ∷ [])) ∷ starts
    (6 ∷ 1 ∷ 2 ∷ 3 ∷ 4 ∷ 0 ∷ 0 ∷ []) ∷ [])
    ∷ plays 6 (loads (serial ++ startup 5)) (words (ok3 (0x6A80 ∷ [])) ∷ [])
    ∷ plays 6 (loads (serial ++ startup 56)) (words (ok3 (0x6A80 ∷ [])) ∷ [])
    -- 7. "Key lengths 1, 64 pass; 0, 65 '6700'."
    ∷ plays 10 (keyed 1) (words (ok3 (0x9000 ∷ [])) ∷ secret 1 1 (0x5C ∷ zeros 63) ∷ [])
    ∷ plays 10 (keyed 64) (words (ok3 (0x9000 ∷ [])) ∷ secret 1 64 (replicate 64 0x5C) ∷ [])
    ∷ plays 10 (keyed 0) (words (ok3 (0x6700 ∷ [])) ∷ secret 0 5 (replicate 5 0x5C ++ zeros 59) ∷ secret 1 0
    (zeros 64) ∷ [])
    ∷ plays 10 (keyed 65) (words (ok3 (0x6700 ∷ [])) ∷ [])
    -- 8. "'84F2' when fresh, selected: 9F 70 01 07 9F DC 01 CC."
    ∷ plays 10 (begun (command 0x01 status ∷ []))
    (answer (0x9F ∷ 0x70 ∷ 0x01 ∷ 0x07 ∷ 0x9F ∷ 0xDC ∷ 0x01 ∷ 0xCC ∷ []) ∷ [])
    -- 9. "Data 20 00: in 'CC' '6A80', unlocked; in '5A', nothing open, the same and locked."
    ∷ plays 10 (loads (0x20 ∷ 0x00 ∷ [])) (words (ok3 (0x6A80 ∷ [])) ∷ ends 0x07 0xCC ∷ [])
    ∷ plays 10 (asked (command 0x00 serial ∷ command 0x00 (0x20 ∷ 0x00 ∷ []) ∷ []))
    (words (ok3 (0x9000 ∷ 0x6A80 ∷ [])) ∷ ends 0x87 0x5A ∷ [])
    -- 10. "'2000' before '9484': '6985', '87', '5A'."
    ∷ plays 10 (begun (command 0x00 serial ∷ []))
    (words (0x9000 ∷ 0x9000 ∷ 0x6985 ∷ []) ∷ ends 0x87 0x5A ∷ rows 0 ∷ [])
    -- 11. "Bit 8 without '4103': '6985', locked." What the failed command passed stays.
    ∷ plays 10
    (asked (command 0x80 (serial ++ startup 10 ++ counter ++ table
    (df 0) ++ key 0x38 0x00 16 ++ key 0x41 0x01 16 ++ key 0x41 0x02 16) ∷ []))
    (words (ok3 (0x6985 ∷ [])) ∷ ends 0x87 0x5A ∷ rows 0xFF ∷ count 0x010203 ∷ [])
    -- 12. "252 bytes packed, next a 3-byte spannable header: it fits; its value opens the next command."
    ∷ cuts brimful (255 ∷ 3 ∷ [])
    -- the sample of `replay`
    ∷ prints 10 (begun (command 0x01 challenge ∷ command 0x01 status ∷ command 0x00 (startup 10) ∷ select ∷ []))
    sample
    ∷ []

pub all_right_lem : T (all_right examples)
unfolding computed all_right examples right telling lengths_of
all_right_lem = tt
