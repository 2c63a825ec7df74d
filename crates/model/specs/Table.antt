-- "File table": descriptors, their rules, sizes, and the places of records.
use Rattle.std.specs.Prelude.{ℕ, zero, suc, ◌+◌, ◌-◌, ◌*◌, ◌/◌, Bool, true, false, cond, not, ◌&&◌, ◌||◌, List, [], ◌∷◌, eqb, ltb, leb, length, get_or, take}
use Rattle.lists.specs.Bytes.{byte_at, word_at}
use Rattle.model.specs.declared.Descriptor.{Descriptor}
use Rattle.model.specs.declared.Spot.{Spot}
use Rattle.model.specs.declared.Spot.TheVariants.{Nowhere, At}
use Rattle.model.specs.declared.Verdict.{Verdict}
use Rattle.model.specs.declared.Verdict.TheVariants.{Passes, Refuses}
use Rattle.model.specs.Stored.{area_size, no_file}

-- "18 bytes each: LID 2, SFI, FileType, EFType, RecSize, NumRec, AC 4, NKey 4, DataRef 2, DFStatus."
unfoldable pub descriptor_of : List ℕ → Descriptor
descriptor_of b = record {
  lid = word_at b 0;
  sfi = byte_at b 2;
  filetype = byte_at b 3;
  eftype = byte_at b 4;
  recsize = byte_at b 5;
  numrec = byte_at b 6;
  ac = byte_at b 7 ∷ byte_at b 8 ∷ byte_at b 9 ∷ byte_at b 10 ∷ [];
  nkey = byte_at b 11 ∷ byte_at b 12 ∷ byte_at b 13 ∷ byte_at b 14 ∷ [];
  refsfi = byte_at b 15;
  refnum = byte_at b 16;
  status = byte_at b 17;
}

-- "A file table of up to 31 descriptors"
abbrev pub table_limit : ℕ
table_limit = 31

abbrev pub binary : ℕ
binary = 0x01

abbrev pub simulated : ℕ
simulated = 0x08

abbrev pub counters : ℕ
counters = 0x09

-- "First the DF: SFI 0, '02', '00', sizes 0 (NumRec ours), DataRef 0, status 0 or 1."
abbrev pub df_ok : Descriptor → Bool
df_ok d =
    eqb d.sfi 0 && eqb d.filetype 0x02 && eqb d.eftype 0x00 && eqb d.recsize 0 && eqb d.numrec 0
    && eqb d.refsfi 0 && eqb d.refnum 0 && leb d.status 1

-- "type '01', '02', '04', '08', '09'"
abbrev pub ef_type : ℕ → Bool
ef_type t = eqb t binary || eqb t 0x02 || eqb t 0x04 || eqb t simulated || eqb t counters

-- "LIDs differ; nonzero SFIs differ (ours)." One of two that do not
abbrev pub clash : Descriptor → Descriptor → Bool
clash d e = eqb d.lid e.lid || (not (eqb d.sfi 0) && eqb d.sfi e.sfi)

unfoldable pub clashes : Descriptor → List Descriptor → Bool
clashes d [] = false
clashes d (e ∷ es) = clash d e || clashes d es

-- "AC '00', '01', '10', '1F'; NKey 1 to 3 exactly where AC is '10', else 0."
abbrev pub access_ok : ℕ → ℕ → Bool
access_ok a k = cond (eqb a 0x10) (leb 1 k && leb k 3) ((eqb a 0x00 || eqb a 0x01 || eqb a 0x1F) && eqb k 0)

abbrev pub accesses_ok : List ℕ → List ℕ → Bool
accesses_ok a k =
    access_ok (byte_at a 0) (byte_at k 0) && access_ok (byte_at a 1) (byte_at k 1)
    && access_ok (byte_at a 2) (byte_at k 2) && access_ok (byte_at a 3) (byte_at k 3)

-- "Binary size 256 x RecSize + NumRec, at least 1; others both at least 1, size the product; '08' stores nothing."
abbrev pub size_of : Descriptor → ℕ
size_of d =
    cond (eqb d.eftype binary) (256 * d.recsize + d.numrec)
    (cond (eqb d.eftype simulated) 0 (d.recsize * d.numrec))

abbrev pub sizes_ok : Descriptor → Bool
sizes_ok d = cond (eqb d.eftype binary) (leb 1 (256 * d.recsize + d.numrec))
    (leb 1 d.recsize && leb 1 d.numrec)

-- "DataRef is the nonzero SFI of an earlier '09' and a number 1 to that file's RecSize / 3 rounded down."
abbrev pub counter_in : Descriptor → Descriptor → Bool
counter_in d e = eqb e.eftype counters && eqb e.sfi d.refsfi && leb d.refnum (e.recsize / 3)

unfoldable pub counter_among : Descriptor → List Descriptor → Bool
counter_among d [] = false
counter_among d (e ∷ es) = counter_in d e || counter_among d es

-- "'08': DataRef is .. Others DataRef 0."
abbrev pub data_ref_ok : Descriptor → List Descriptor → Bool
data_ref_ok d before =
    cond (eqb d.eftype simulated) (leb 1 d.refsfi && leb 1 d.refnum && counter_among d before)
    (eqb d.refsfi 0 && eqb d.refnum 0)

-- "Then EFs: SFI 0 to '1E', '04', type .., status 0."
abbrev pub ef_ok : Descriptor → List Descriptor → Bool
ef_ok d before =
    leb d.sfi 0x1E && eqb d.filetype 0x04 && ef_type d.eftype && eqb d.status 0
    && sizes_ok d && data_ref_ok d before && not (clashes d before)

-- every rule of the table for a descriptor that comes after others, but for the total
unfoldable pub rules_ok : Descriptor → List Descriptor → Bool
rules_ok d before =
    ltb (length before) table_limit && accesses_ok d.ac d.nkey && cond (eqb (length before) 0) (df_ok d)
    (ef_ok d before)

unfoldable pub total : List Descriptor → ℕ
total [] = 0
total (d ∷ ds) = size_of d + total ds

-- "Broken rule '6A80'; then a size total over 4,096 '6A84'."
unfoldable pub admit_of : Descriptor → List Descriptor → Verdict
admit_of d before = cond (rules_ok d before) (cond (leb (total before + size_of d) area_size) (Passes 0) (Refuses 0x6A84))
    (Refuses 0x6A80)

abbrev pub passed : Verdict → Bool
passed (Passes n) = true
passed (Refuses w) = false

-- the first n descriptors "each pass below after those before"
unfoldable pub table_passes : List Descriptor → ℕ → Bool
table_passes files zero = true
table_passes files (suc n) = table_passes files n && passed (admit_of (get_or files n no_file) (take n files))

-- "Files lie in table order; record r begins (r-1) x RecSize into its file." Record nn of a file that begins at base:
-- rule e's "binary, linear, cyclic or counters, nn 0 for binary, else 1 to NumRec"
abbrev pub spot_in : Descriptor → ℕ → ℕ → Spot
spot_in d base nn =
    cond (eqb d.eftype binary) (cond (eqb nn 0) (At base (size_of d)) Nowhere)
    (cond (eqb d.eftype simulated) Nowhere
    (cond (leb 1 nn && leb nn d.numrec) (At (base + (nn - 1) * d.recsize) d.recsize) Nowhere))

unfoldable pub spot_from : List Descriptor → ℕ → ℕ → ℕ → Spot
spot_from [] base sfi nn = Nowhere
spot_from (d ∷ ds) base sfi nn = let later = spot_from ds (base + size_of d) sfi nn in
    cond (eqb d.sfi sfi) (spot_in d base nn) later

-- the place of record nn of the file with a nonzero SFI
unfoldable pub spot_of : List Descriptor → ℕ → ℕ → Spot
spot_of files sfi nn = cond (eqb sfi 0) Nowhere (spot_from files 0 sfi nn)
