-- Which rule of the file table a descriptor breaks: the first, in the order in which the table's rules stand.
use Rattle.std.specs.Prelude.{ℕ, ◌+◌, Bool, false, cond, ◌||◌, List, [], ◌∷◌, eqb, ltb, leb, length}
use Rattle.lists.specs.Bytes.{byte_at}
use Rattle.model.specs.declared.Descriptor.{Descriptor}
use Rattle.model.specs.declared.Verdict.{Verdict}
use Rattle.model.specs.declared.Verdict.TheVariants.{Passes, Refuses}
use Rattle.model.specs.Stored.{area_size}
use Rattle.model.specs.Table.{table_limit, access_ok, df_ok, ef_type, sizes_ok, data_ref_ok, clash, size_of, total}
use Rattle.table_flaws.specs.declared.Flaw.{Flaw}
use Rattle.table_flaws.specs.declared.Flaw.TheVariants.{Nothing, TooMany, Access, Df, Sfi, FileType, EfType}
use Rattle.table_flaws.specs.declared.Flaw.TheVariants.{Status}
use Rattle.table_flaws.specs.declared.Flaw.TheVariants.{Size, DataRef, LidUsed, SfiUsed, Total}

-- a flaw where a rule is broken, and what later rules find where it is kept
abbrev pub unless : Bool → Flaw → Flaw → Flaw
unless kept flaw later = cond kept later flaw

-- the first of the four AC and NKey that is refused
abbrev pub access_flaw : List ℕ → List ℕ → Flaw → Flaw
access_flaw a k later =
    unless (access_ok (byte_at a 0) (byte_at k 0)) (Access 1)
    (unless (access_ok (byte_at a 1) (byte_at k 1)) (Access 2)
    (unless (access_ok (byte_at a 2) (byte_at k 2)) (Access 3)
    (unless (access_ok (byte_at a 3) (byte_at k 3)) (Access 4) later)))

-- what an EF's descriptor says by itself
abbrev pub field_flaw : Descriptor → Flaw → Flaw
field_flaw d later =
    unless (leb d.sfi 0x1E) Sfi
    (unless (eqb d.filetype 0x04) FileType
    (unless (ef_type d.eftype) EfType
    (unless (eqb d.status 0) Status
    (unless (sizes_ok d) Size later))))

-- the first descriptor with which it clashes, where they are numbered from k on: by the LID, or else by the SFI
unfoldable pub clash_flaw : Descriptor → List Descriptor → ℕ → Flaw → Flaw
clash_flaw d [] k later = later
clash_flaw d (e ∷ es) k later =
    cond (eqb d.lid e.lid) (LidUsed k) (cond (clash d e) (SfiUsed k) (clash_flaw d es (k + 1) later))

abbrev pub total_flaw : Descriptor → List Descriptor → Flaw
total_flaw d before = unless (leb (total before + size_of d) area_size) Total Nothing

abbrev pub ef_flaw : Descriptor → List Descriptor → Flaw
ef_flaw d before = field_flaw d (unless (data_ref_ok d before) DataRef (clash_flaw d before 1 (total_flaw d before)))

-- the DF comes first, then EFs
abbrev pub kind_flaw : Descriptor → List Descriptor → Flaw
kind_flaw d before = cond (eqb (length before) 0) (unless (df_ok d) Df (total_flaw d before)) (ef_flaw d before)

-- what is wrong with a descriptor that comes after others
unfoldable pub flaw_of : Descriptor → List Descriptor → Flaw
flaw_of d before =
    unless (ltb (length before) table_limit) TooMany
    (access_flaw d.ac d.nkey (kind_flaw d before))

-- "Broken rule '6A80'; then a size total over 4,096 '6A84'."
abbrev pub verdict_of : Flaw → Verdict
verdict_of Nothing = Passes 0
verdict_of TooMany = Refuses 0x6A80
verdict_of (Access i) = Refuses 0x6A80
verdict_of Df = Refuses 0x6A80
verdict_of Sfi = Refuses 0x6A80
verdict_of FileType = Refuses 0x6A80
verdict_of EfType = Refuses 0x6A80
verdict_of Status = Refuses 0x6A80
verdict_of Size = Refuses 0x6A80
verdict_of DataRef = Refuses 0x6A80
verdict_of (LidUsed k) = Refuses 0x6A80
verdict_of (SfiUsed k) = Refuses 0x6A80
verdict_of Total = Refuses 0x6A84

-- whether a descriptor of the table has this SFI
unfoldable pub listed : ℕ → List Descriptor → Bool
listed sfi [] = false
listed sfi (e ∷ es) = eqb e.sfi sfi || listed sfi es
