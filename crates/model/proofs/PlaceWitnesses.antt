-- "File table", computed: '08' references, sizes and their total at 4,096, whole tables, and where each record lies.
use Prim.Native.Nat.{ℕ}
use mathlib.Core.Bool.{Bool, not}
use mathlib.Core.List.{List, [], ◌∷◌}
use lib.Dec.{T, eqb}
use Rattle.lists.specs.Bytes.{same}
use Rattle.model.specs.declared.Descriptor.{Descriptor}
use Rattle.model.specs.Table.{descriptor_of, size_of, total, table_passes, spot_of}
use Rattle.model.specs.Rules.{tag_spot, room_of}
use Rattle.model.proofs.Scenes.{Bytes, df, ef}
use Rattle.model.proofs.Tables.{every, but, files_of, spot_numbers, verdict_number, tabled}
use Rattle.model.proofs.DescriptorWitnesses.{passes, breaks, too_big}

-- counters with SFIs '19', '1A', '1B', '01' and none, and a linear file with SFI '08'
abbrev pub counted : List Bytes
counted =
    df 0 ∷ ef 0x19 0x09 11 1 0 0 ∷ ef 0x1A 0x09 3 1 0 0 ∷ ef 0x1B 0x09 2 1 0 0 ∷ ef 0x01 0x09 6 1 0 0
    ∷ ef 0x00 0x09 30 1 0 0 ∷ ef 0x08 0x02 30 1 0 0 ∷ []

-- an '08' that refers to an SFI and a number
abbrev pub mirror : ℕ → ℕ → Bytes
mirror rs rn = ef 0x0A 0x08 3 1 rs rn

-- "DataRef is the nonzero SFI of an earlier '09' and a number 1 to that file's RecSize / 3 rounded down."
unfoldable pub mirrors : List Bool
mirrors =
    breaks counted (mirror 0x19 0) ∷ passes counted (mirror 0x19 1) ∷ passes counted (mirror 0x19 2)
    ∷ passes counted (mirror 0x19 3) ∷ breaks counted (mirror 0x19 4)
    ∷ breaks counted (mirror 0x1A 0) ∷ passes counted (mirror 0x1A 1) ∷ breaks counted (mirror 0x1A 2)
    ∷ breaks counted (mirror 0x1B 1)
    ∷ passes counted (mirror 0x01 1) ∷ passes counted (mirror 0x01 2) ∷ breaks counted (mirror 0x01 3)
    ∷ breaks counted (mirror 0x00 0) ∷ breaks counted (mirror 0x00 1) ∷ breaks counted (mirror 0x08 1)
    ∷ breaks counted (mirror 0x18 1)
    ∷ breaks (df 0 ∷ []) (mirror 0x19 1) ∷ passes (df 0 ∷ ef 0x19 0x09 3 1 0 0 ∷ []) (mirror 0x19 1)
    -- two may name one counter
    ∷ passes (df 0 ∷ ef 0x19 0x09 3 1 0 0 ∷ mirror 0x19 1 ∷ []) (ef 0x0B 0x08 3 1 0x19 1)
    -- both its sizes at least 1
    ∷ passes counted (ef 0x0A 0x08 1 1 0x19 1) ∷ breaks counted (ef 0x0A 0x08 0 1 0x19 1)
    ∷ breaks counted (ef 0x0A 0x08 1 0 0x19 1)
    ∷ []

-- 4,080 bytes are stored already; a file may have 16
abbrev pub nearly_full : List Bytes
nearly_full = df 0 ∷ ef 0x19 0x09 16 255 0 0 ∷ []

abbrev pub brimful : List Bytes
brimful = df 0 ∷ ef 0x19 0x09 16 255 0 0 ∷ ef 0x1E 0x01 0x00 0x10 0 0 ∷ []

abbrev pub takes : Bytes → ℕ → Bool
takes d n = eqb (size_of (descriptor_of d)) n

-- "Broken rule '6A80'; then a size total over 4,096 '6A84'."
unfoldable pub sizes : List Bool
sizes =
    takes (ef 0x07 0x01 0x01 0x2C 0 0) 300 ∷ takes (ef 0x07 0x01 0x02 0x01 0 0) 513
    ∷ takes (ef 0x07 0x02 29 3 0 0) 87 ∷ takes (ef 0x07 0x04 5 4 0 0) 20
    ∷ takes (ef 0x07 0x09 11 1 0 0) 11 ∷ takes (ef 0x0A 0x08 200 20 0x19 1) 0 ∷ takes (df 0) 0
    ∷ eqb (total (files_of counted)) 82 ∷ eqb (total (files_of brimful)) 4096
    ∷ passes (df 0 ∷ []) (ef 0x07 0x01 0x0F 0xFF 0 0) ∷ passes (df 0 ∷ []) (ef 0x07 0x01 0x10 0x00 0 0)
    ∷ too_big (df 0 ∷ []) (ef 0x07 0x01 0x10 0x01 0 0)
    ∷ passes nearly_full (ef 0x07 0x01 0x00 0x10 0 0) ∷ too_big nearly_full (ef 0x07 0x01 0x00 0x11 0 0)
    ∷ passes nearly_full (ef 0x07 0x02 16 1 0 0) ∷ too_big nearly_full (ef 0x07 0x02 1 17 0 0)
    ∷ passes nearly_full (ef 0x07 0x04 4 4 0 0) ∷ too_big nearly_full (ef 0x07 0x04 17 1 0 0)
    ∷ passes nearly_full (ef 0x07 0x09 8 2 0 0) ∷ too_big nearly_full (ef 0x07 0x09 6 3 0 0)
    ∷ passes brimful (ef 0x0A 0x08 255 255 0x19 1) ∷ too_big brimful (ef 0x07 0x02 1 1 0 0)
    ∷ breaks (df 0 ∷ []) (but 3 5 (ef 0x07 0x01 0x10 0x01 0 0)) ∷ breaks brimful (ef 0x19 0x02 1 1 0 0)
    ∷ []

-- a whole table of n descriptors passes, or does not
abbrev pub table_pass : List Bytes → ℕ → Bool
table_pass fs n = table_passes (files_of fs) n

unfoldable pub whole_tables : List Bool
whole_tables =
    table_pass [] 0 ∷ table_pass counted 0 ∷ table_pass counted 1 ∷ table_pass counted 7 ∷ table_pass brimful 3
    ∷ table_pass (df 2 ∷ []) 0 ∷ not (table_pass (df 2 ∷ []) 1)
    ∷ not (table_pass (df 2 ∷ ef 0x07 0x02 1 1 0 0 ∷ []) 2)
    ∷ table_pass (df 1 ∷ ef 0x07 0x02 0 1 0 0 ∷ []) 1 ∷ not (table_pass (df 1 ∷ ef 0x07 0x02 0 1 0 0 ∷ []) 2)
    ∷ not (table_pass (mirror 0x19 1 ∷ nearly_full) 3)
    ∷ table_pass (df 0 ∷ ef 0x08 0x01 0x10 0x00 0 0 ∷ ef 0x07 0x02 1 1 0 0 ∷ []) 2
    ∷ not (table_pass (df 0 ∷ ef 0x08 0x01 0x10 0x00 0 0 ∷ ef 0x07 0x02 1 1 0 0 ∷ []) 3)
    ∷ []

-- counters, linear, '08', binary, linear without an SFI, cyclic, and a binary of one byte
abbrev pub placed : List Descriptor
placed =
    files_of
    (df 0 ∷ ef 0x19 0x09 11 1 0 0 ∷ ef 0x08 0x02 29 3 0 0 ∷ ef 0x0A 0x08 200 20 0x19 1 ∷ ef 0x07 0x01 0x01 0x2C 0 0
    ∷ ef 0x00 0x02 10 2 0 0 ∷ ef 0x01 0x04 5 4 0 0 ∷ ef 0x1E 0x01 0 1 0 0 ∷ [])

-- record nn of an SFI lies at a place with a size, or nowhere
abbrev pub lies : ℕ → ℕ → ℕ → ℕ → Bool
lies sfi nn base size = same (spot_numbers (spot_of placed sfi nn)) (base ∷ size ∷ [])

abbrev pub lacks : ℕ → ℕ → Bool
lacks sfi nn = same (spot_numbers (spot_of placed sfi nn)) []

-- "Files lie in table order; record r begins (r-1) x RecSize into its file."
unfoldable pub places : List Bool
places =
    lacks 0x19 0 ∷ lies 0x19 1 0 11 ∷ lacks 0x19 2
    ∷ lacks 0x08 0 ∷ lies 0x08 1 11 29 ∷ lies 0x08 2 40 29 ∷ lies 0x08 3 69 29 ∷ lacks 0x08 4
    ∷ lacks 0x0A 0 ∷ lacks 0x0A 1 ∷ lacks 0x0A 20
    ∷ lies 0x07 0 98 300 ∷ lacks 0x07 1 ∷ lacks 0x07 2
    ∷ lacks 0x00 0 ∷ lacks 0x00 1 ∷ lacks 0x00 2
    ∷ lacks 0x01 0 ∷ lies 0x01 1 418 5 ∷ lies 0x01 4 433 5 ∷ lacks 0x01 5
    ∷ lies 0x1E 0 438 1 ∷ lacks 0x1E 1 ∷ lacks 0x1F 0 ∷ lacks 0x02 1
    -- no file with SFI 0 has a place, also in a list that does not begin with a DF
    ∷ same (spot_numbers (spot_of (files_of (ef 0x00 0x02 10 2 0 0 ∷ [])) 0 1)) []
    ∷ same (spot_numbers (spot_of (files_of (ef 0x01 0x02 10 2 0 0 ∷ [])) 1 1)) (0 ∷ 10 ∷ [])
    -- rule e of a tag: the most bytes of its value, or '6A88'
    ∷ same (spot_numbers (tag_spot placed 0x0803)) (69 ∷ 29 ∷ []) ∷ same (spot_numbers (tag_spot placed 0x1900)) []
    ∷ eqb (verdict_number (room_of placed 11 0x0700)) 300 ∷ eqb (verdict_number (room_of placed 11 0x0701)) 0x6A88
    ∷ eqb (verdict_number (room_of placed 11 0x0801)) 29 ∷ eqb (verdict_number (room_of placed 11 0x0A01)) 0x6A88
    ∷ eqb (verdict_number (room_of placed 10 0x4104)) 64 ∷ eqb (verdict_number (room_of placed 5 0x3100)) 558
    ∷ []

pub mirrors_right : T (every mirrors)
unfolding tabled mirrors
mirrors_right = tt

pub sizes_right : T (every sizes)
unfolding tabled sizes
sizes_right = tt

pub whole_tables_right : T (every whole_tables)
unfolding tabled whole_tables
whole_tables_right = tt

pub places_right : T (every places)
unfolding tabled places
places_right = tt
