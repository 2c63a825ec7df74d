-- "Stored forms", computed: the chip record and its refusals, every field of a fresh card, the event record, kinds and
-- padding at both sides.
use Prim.Native.Nat.{ℕ}
use mathlib.Core.Bool.{Bool, not}
use mathlib.Core.List.{List, [], ◌∷◌, ◌++◌}
use lib.Dec.{T, eqb}
use lib.ListN.{drop}
use Rattle.lists.specs.Bytes.{same, zeros}
use Rattle.model.specs.Stored.{chip_of, chip_form, event_in, is_kind, padded_zero, record_of}
use Rattle.model.specs.Session.{fresh_of}
use Rattle.model.proofs.Scenes.{Bytes, event}
use Rattle.model.proofs.Tables.{every, rising, but, card_numbers, tabled}

-- a chip record whose bytes are 1, 2, .. 37
abbrev pub chip_bytes : Bytes
chip_bytes = rising 1 37 ++ 0 ∷ 0 ∷ 0 ∷ []

-- what a fresh card has behind its chip: life; running, held, 31 descriptors, count, serial, startup, counter, secrets
abbrev pub fresh_rest : List ℕ
fresh_rest =
    0x00 ∷ 0 ∷ zeros 16 ++ 0
    ∷ 0xCC ∷ 0 ∷ 0 ∷ 0 ∷ zeros 18 ++ zeros 527 ++ 0 ∷ zeros 8 ++ zeros 7 ++ 200000 ∷ zeros 325

unfoldable pub chips : List Bool
chips =
    -- "application reference 4, challenge 16, traceability 16, session capacity 1"
    same (chip_of chip_bytes).reference (rising 1 4)
    ∷ same (chip_of chip_bytes).challenge (rising 5 16)
    ∷ same (chip_of chip_bytes).traceability (rising 21 16)
    ∷ eqb (chip_of chip_bytes).capacity 37
    -- "chip record not 40 bytes, or its last three not zero"
    ∷ chip_form chip_bytes
    ∷ chip_form (but 36 0xFF chip_bytes)
    ∷ not (chip_form (drop 1 chip_bytes))
    ∷ not (chip_form (0 ∷ chip_bytes))
    ∷ not (chip_form (chip_bytes ++ 0 ∷ []))
    ∷ not (chip_form [])
    ∷ not (chip_form (but 37 1 chip_bytes))
    ∷ not (chip_form (but 38 1 chip_bytes))
    ∷ not (chip_form (but 39 1 chip_bytes))
    -- "absent (GP '00'), internal 'CC', counter 200,000, all else zero"; number 7: "of 40 zero bytes"
    ∷ eqb (fresh_of chip_bytes).number 0
    ∷ same (card_numbers (fresh_of chip_bytes).card) (rising 1 37 ++ fresh_rest)
    ∷ eqb (fresh_of (but 38 1 chip_bytes)).number 7
    ∷ same (card_numbers (fresh_of (but 38 1 chip_bytes)).card) (zeros 37 ++ fresh_rest)
    ∷ []

-- a record of kind 2, P1 '85', P2 'EE', with three data bytes
abbrev pub three : Bytes
three = 2 ∷ 0x85 ∷ 0xEE ∷ 3 ∷ 7 ∷ 8 ∷ 9 ∷ zeros 253

-- and one that is full
abbrev pub full : Bytes
full = 2 ∷ 0x00 ∷ 0x00 ∷ 255 ∷ rising 1 255 ++ 0 ∷ []

unfoldable pub records : List Bool
records =
    -- "kind, P1, P2, length n, 255 data bytes, one zero byte"
    eqb (event_in three).kind 2
    ∷ eqb (event_in three).p1 0x85
    ∷ same (event_in three).bytes (7 ∷ 8 ∷ 9 ∷ [])
    ∷ same (event_in full).bytes (rising 1 255)
    ∷ same (event_in (4 ∷ zeros 259)).bytes []
    ∷ same (record_of (event 2 0x85 (7 ∷ 8 ∷ 9 ∷ []))) (but 2 0 three)
    ∷ same (record_of (event 2 0x00 (rising 1 255))) full
    ∷ same (record_of (event 8 0x00 [])) (8 ∷ zeros 259)
    -- "Data bytes past n are zero"
    ∷ padded_zero three
    ∷ padded_zero (but 6 0 three)
    ∷ not (padded_zero (but 7 1 three))
    ∷ not (padded_zero (but 258 1 three))
    ∷ not (padded_zero (but 259 1 three))
    ∷ padded_zero full
    ∷ not (padded_zero (but 259 1 full))
    ∷ padded_zero (5 ∷ 0xFF ∷ 0xFF ∷ zeros 257)
    ∷ not (padded_zero (5 ∷ 0 ∷ 0 ∷ 0 ∷ 1 ∷ zeros 255))
    -- "Kinds: 1 INSTALL .. 8 UNLOCK"
    ∷ not (is_kind 0)
    ∷ is_kind 1
    ∷ is_kind 2
    ∷ is_kind 7
    ∷ is_kind 8
    ∷ not (is_kind 9)
    ∷ not (is_kind 255)
    ∷ []

pub chips_right : T (every chips)
unfolding tabled chips
chips_right = tt

pub records_right : T (every records)
unfolding tabled records
records_right = tt
