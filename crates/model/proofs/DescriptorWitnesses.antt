-- "File table", computed: for each rule a descriptor that only this rule refuses, beside its neighbours that pass.
use Prim.Native.Nat.{ℕ, ◌+◌}
use mathlib.Core.Bool.{Bool}
use mathlib.Core.List.{List, [], ◌∷◌}
use lib.Dec.{T, eqb}
use lib.ListN.{replicate}
use Rattle.lists.specs.Bytes.{same}
use Rattle.model.specs.Table.{descriptor_of, admit_of}
use Rattle.model.proofs.Scenes.{Bytes, df, ef}
use Rattle.model.proofs.Tables.{every, rising, but, file_numbers, files_of, verdict_number, tabled}

-- after descriptors, one more passes or is refused by a word
abbrev pub passes : List Bytes → Bytes → Bool
passes before d = eqb (verdict_number (admit_of (descriptor_of d) (files_of before))) 0

abbrev pub breaks : List Bytes → Bytes → Bool
breaks before d = eqb (verdict_number (admit_of (descriptor_of d) (files_of before))) 0x6A80

abbrev pub too_big : List Bytes → Bytes → Bool
too_big before d = eqb (verdict_number (admit_of (descriptor_of d) (files_of before))) 0x6A84

-- "First the DF: SFI 0, '02', '00', sizes 0 (NumRec ours), DataRef 0, status 0 or 1."
unfoldable pub directories : List Bool
directories =
    -- "18 bytes each: LID 2, SFI, FileType, EFType, RecSize, NumRec, AC 4, NKey 4, DataRef 2, DFStatus"
    same (file_numbers (descriptor_of (rising 1 18))) (0x0102 ∷ rising 3 16)
    ∷ passes [] (df 0) ∷ passes [] (df 1) ∷ breaks [] (df 2) ∷ breaks [] (df 3)
    ∷ passes [] (but 0 0 (df 0)) ∷ passes [] (but 0 0xFF (but 1 0xFF (df 0)))
    ∷ breaks [] (but 2 1 (df 0)) ∷ breaks [] (but 2 0x1E (df 0))
    ∷ breaks [] (but 3 0 (df 0)) ∷ breaks [] (but 3 3 (df 0)) ∷ breaks [] (but 3 4 (df 0))
    ∷ breaks [] (but 4 1 (df 0)) ∷ breaks [] (but 4 2 (df 0))
    ∷ breaks [] (but 5 1 (df 0)) ∷ breaks [] (but 6 1 (df 0))
    ∷ breaks [] (but 15 1 (df 0)) ∷ breaks [] (but 16 1 (df 0))
    -- an EF first, and a DF second
    ∷ breaks [] (ef 0x00 0x02 5 4 0 0) ∷ breaks (df 0 ∷ []) (but 0 0x40 (df 0))
    ∷ []

-- AC byte i and NKey byte i of a DF
abbrev pub allows : ℕ → ℕ → ℕ → Bool
allows i a k = passes [] (but (7 + i) a (but (11 + i) k (df 0)))

abbrev pub forbids : ℕ → ℕ → ℕ → Bool
forbids i a k = breaks [] (but (7 + i) a (but (11 + i) k (df 0)))

-- "AC '00', '01', '10', '1F'; NKey 1 to 3 exactly where AC is '10', else 0."
abbrev pub accesses : ℕ → List Bool
accesses i =
    allows i 0x00 0 ∷ allows i 0x01 0 ∷ allows i 0x1F 0 ∷ allows i 0x10 1 ∷ allows i 0x10 2 ∷ allows i 0x10 3
    ∷ forbids i 0x10 0 ∷ forbids i 0x10 4 ∷ forbids i 0x00 1 ∷ forbids i 0x01 1 ∷ forbids i 0x1F 1
    ∷ forbids i 0x02 0 ∷ forbids i 0x03 0 ∷ forbids i 0x0F 0 ∷ forbids i 0x11 0 ∷ forbids i 0x12 0 ∷ forbids i 0x1E 0
    ∷ forbids i 0x21 0 ∷ forbids i 0xFF 0 ∷ forbids i 0x11 1 ∷ forbids i 0x12 1
    ∷ []

-- an EF, linear with SFI '07', after the DF
abbrev pub file : Bytes
file = ef 0x07 0x02 5 4 0 0

abbrev pub only : List Bytes
only = df 0 ∷ []

-- two EFs of one type with both sizes changed, which is refused, and with the least sizes
abbrev pub sized : ℕ → List Bool
sized t =
    passes only (ef 0x07 t 1 1 0 0) ∷ breaks only (ef 0x07 t 0 1 0 0) ∷ breaks only (ef 0x07 t 1 0 0 0)
    ∷ breaks only (ef 0x07 t 1 1 1 0) ∷ breaks only (ef 0x07 t 1 1 0 1)
    ∷ []

-- "Then EFs: SFI 0 to '1E', '04', type '01', '02', '04', '08', '09', status 0."
unfoldable pub files : List Bool
files =
    passes only file
    ∷ passes only (but 2 0 file) ∷ passes only (but 2 0x1E file) ∷ breaks only (but 2 0x1F file)
    ∷ breaks only (but 2 0x20 file) ∷ breaks only (but 2 0xFF file)
    ∷ breaks only (but 3 2 file) ∷ breaks only (but 3 5 file) ∷ breaks only (but 3 6 file)
    ∷ breaks only (but 4 0x00 file) ∷ breaks only (but 4 0x03 file) ∷ breaks only (but 4 0x05 file)
    ∷ breaks only (but 4 0x06 file) ∷ breaks only (but 4 0x07 file) ∷ breaks only (but 4 0x08 file)
    ∷ breaks only (but 4 0x0A file) ∷ breaks only (but 4 0x0B file) ∷ breaks only (but 4 0x10 file)
    ∷ breaks only (but 17 1 file) ∷ breaks only (but 17 2 file)
    ∷ breaks only (but 8 0x00 file) ∷ breaks only (but 12 0 file)
    -- "Binary size 256 x RecSize + NumRec, at least 1; others both at least 1"
    ∷ passes only (ef 0x07 0x01 0 1 0 0) ∷ passes only (ef 0x07 0x01 1 0 0 0) ∷ breaks only (ef 0x07 0x01 0 0 0 0)
    ∷ breaks only (ef 0x07 0x01 1 1 1 0) ∷ breaks only (ef 0x07 0x01 1 1 0 1)
    ∷ every (sized 0x02) ∷ every (sized 0x04) ∷ every (sized 0x09)
    ∷ every (accesses 0) ∷ every (accesses 1) ∷ every (accesses 2) ∷ every (accesses 3)
    ∷ []

-- the DF, two EFs with SFIs '08' and '01', two without one
abbrev pub some : List Bytes
some =
    df 0 ∷ ef 0x08 0x02 1 1 0 0 ∷ ef 0x01 0x01 0 1 0 0 ∷ ef 0x00 0x02 1 1 0 0 ∷ but 0 0x30 (ef 0x00 0x04 1 1 0 0) ∷ []

abbrev pub another : Bytes
another = ef 0x0B 0x02 1 1 0 0

-- "LIDs differ; nonzero SFIs differ (ours)."
unfoldable pub clashing : List Bool
clashing =
    passes some another
    ∷ breaks some (but 0 0x3F (but 1 0x00 another)) ∷ passes some (but 0 0x3F (but 1 0x01 another))
    ∷ breaks some (but 1 0x08 another) ∷ passes some (but 1 0x09 another)
    ∷ breaks some (but 1 0x01 another) ∷ breaks some (but 1 0x00 another)
    ∷ breaks some (but 0 0x30 (but 1 0x00 another)) ∷ passes some (but 0 0x31 (but 1 0x00 another))
    ∷ breaks some (but 2 0x08 another) ∷ breaks some (but 2 0x01 another) ∷ passes some (but 2 0x02 another)
    ∷ passes some (but 2 0x00 another)
    -- "A file table of up to 31 descriptors"
    ∷ passes (replicate 30 (df 0)) another ∷ breaks (replicate 31 (df 0)) another
    ∷ []

pub directories_right : T (every directories)
unfolding tabled directories
directories_right = tt

pub files_right : T (every files)
unfolding tabled files
files_right = tt

pub clashing_right : T (every clashing)
unfolding tabled clashing
clashing_right = tt
