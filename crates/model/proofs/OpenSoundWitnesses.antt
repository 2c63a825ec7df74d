-- "Sound means" of an open value, computed: where it may be, and each of its numbers at both sides.
use Prim.Native.Nat.{ℕ}
use mathlib.Core.Bool.{Bool, true, false, not}
use mathlib.Core.List.{List, [], ◌∷◌}
use lib.Dec.{T}
use Rattle.model.specs.declared.Open.TheVariants.{Shut, Table, Record}
use Rattle.model.specs.Sound.{sound_with}
use Rattle.model.proofs.Scenes.{Bytes, df, ef, linear}
use Rattle.model.proofs.Tables.{every}
use Rattle.model.proofs.Cards.{life_in, carded}
use Rattle.model.proofs.SoundWitnesses.{part, small}

-- '3100' open with held and missing bytes after a table of these descriptors, at '07' with '5A'
abbrev pub table_open : List Bytes → ℕ → ℕ → Bool
table_open files held missing = sound_with (life_in 0x07 true) (part 0x5A 0x007 (Table held missing) files)

unfoldable pub open_tables : List Bool
open_tables =
    -- "descriptors x 18 + held + missing at most 558 and a multiple of 18, held under 18", "missing at least 1"
    not (table_open [] 0 0) ∷ not (table_open [] 0 1) ∷ not (table_open [] 0 17) ∷ table_open [] 0 18
    ∷ not (table_open [] 0 19) ∷ table_open [] 1 17 ∷ not (table_open [] 1 18) ∷ table_open [] 17 1
    ∷ not (table_open [] 18 18) ∷ not (table_open [] 18 0) ∷ table_open [] 17 19 ∷ not (table_open [] 19 17)
    ∷ table_open [] 0 540 ∷ table_open [] 0 558 ∷ not (table_open [] 0 559) ∷ not (table_open [] 0 576)
    ∷ table_open [] 9 549 ∷ not (table_open [] 9 567)
    ∷ not (table_open (df 0 ∷ []) 0 0) ∷ table_open (df 0 ∷ []) 5 13 ∷ not (table_open (df 0 ∷ []) 5 14)
    ∷ table_open (df 0 ∷ []) 0 540 ∷ not (table_open (df 0 ∷ []) 0 558)
    ∷ table_open (df 0 ∷ small 29) 0 18 ∷ table_open (df 0 ∷ small 29) 17 1 ∷ not (table_open (df 0 ∷ small 29) 0 36)
    ∷ not (table_open (df 0 ∷ small 29) 9 27) ∷ not (table_open (df 0 ∷ small 30) 0 18)
    ∷ not (table_open (df 2 ∷ []) 0 18)
    -- "row 5 not taken"
    ∷ sound_with (life_in 0x07 true) (part 0x5A 0x7EF (Table 0 18) (df 0 ∷ []))
    ∷ not (sound_with (life_in 0x07 true) (part 0x5A 0x017 (Table 0 18) (df 0 ∷ [])))
    ∷ not (sound_with (life_in 0x07 true) (part 0x5A 0x017 (Table 0 18) []))
    -- "an open value only at '07' with '5A'"
    ∷ not (sound_with (life_in 0x07 true) (part 0xCC 0x007 (Table 0 18) []))
    ∷ not (sound_with (life_in 0x07 true) (part 0xA5 0x007 (Table 0 18) []))
    ∷ not (sound_with (life_in 0x87 false) (part 0x5A 0x007 (Table 0 18) []))
    ∷ not (sound_with (life_in 0x87 false) (part 0xCC 0x007 (Table 0 18) []))
    ∷ []

-- linear 29 x 3 with SFI '08', binary of 300 bytes with SFI '07'
abbrev pub files : List Bytes
files = df 0 ∷ linear ∷ ef 0x07 0x01 0x01 0x2C 0 0 ∷ []

-- an 'ssnn' open, so much of it written and so much missing
abbrev pub record_open : ℕ → ℕ → ℕ → Bool
record_open tag written missing = sound_with (life_in 0x07 true) (part 0x5A 0x1F7 (Record tag written missing) files)

unfoldable pub open_records : List Bool
open_records =
    -- "an 'ssnn' that rule e passes, written + missing at most its record, missing at least 1"
    not (record_open 0x0801 0 0) ∷ record_open 0x0801 0 1 ∷ record_open 0x0801 0 29 ∷ not (record_open 0x0801 0 30)
    ∷ record_open 0x0801 28 1 ∷ not (record_open 0x0801 29 0) ∷ not (record_open 0x0801 29 1)
    ∷ record_open 0x0801 14 15 ∷ not (record_open 0x0801 1 29)
    ∷ record_open 0x0803 0 29 ∷ not (record_open 0x0800 0 1) ∷ not (record_open 0x0804 0 1)
    ∷ not (record_open 0x0901 0 1)
    ∷ record_open 0x0700 0 300 ∷ record_open 0x0700 299 1 ∷ not (record_open 0x0700 0 301)
    ∷ not (record_open 0x0701 0 1) ∷ not (record_open 0x0700 300 1)
    -- rows may be missing, but for row 5; and it may be taken already
    ∷ sound_with (life_in 0x07 true) (part 0x5A 0x010 (Record 0x0801 0 29) files)
    ∷ sound_with (life_in 0x07 true) (part 0x5A 0x7FF (Record 0x0801 0 29) files)
    ∷ not (sound_with (life_in 0x07 true) (part 0x5A 0x7EF (Record 0x0801 0 29) files))
    -- "an open value only at '07' with '5A'"
    ∷ not (sound_with (life_in 0x07 true) (part 0xCC 0x1F7 (Record 0x0801 0 29) files))
    ∷ not (sound_with (life_in 0x07 true) (part 0xA5 0x1F7 (Record 0x0801 0 29) files))
    ∷ not (sound_with (life_in 0x87 false) (part 0x5A 0x1F7 (Record 0x0801 0 29) files))
    ∷ sound_with (life_in 0x87 false) (part 0x5A 0x1F7 Shut files)
    ∷ []

pub open_tables_right : T (every open_tables)
unfolding carded open_tables small
open_tables_right = tt

pub open_records_right : T (every open_records)
unfolding carded open_records
open_records_right = tt
