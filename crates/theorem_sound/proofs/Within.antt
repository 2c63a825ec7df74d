-- Where the records of a file table lie: within their files, and these, end to end, within the file area.
use Prim.Native.Nat.{ℕ, zero, suc, ◌+◌, ◌-◌, ◌*◌, ◌≤◌, ◌<◌}
use mathlib.Core.Path.{◌≡◌, refl, ◌∙◌, subst, ap₂}
use mathlib.Core.Bool.{Bool, true, false, cond, ◌&&◌}
use mathlib.Core.List.{List, [], ◌∷◌, ◌++◌}
use native.Mathlib.Omega.{arith}
use native.Mathlib.Nat.{zero-add, le_refl, suc-mul, mul_comm, mul-le-mul_right, suc-sub-suc, sub-zero}
use lib.Dec.{eqb, leb}
use native.Mathlib.Numerals.{add-one}
use lib.ListN.{length, get_or, take, set}
use lib.Seq.{get_or-set_other, get_or-set_same, take-set-le, take-suc-set}
use borrow.Author.Tests.{leb-true}
use Rattle.lists.specs.Choice.{by_cond}
use Rattle.model.specs.declared.Descriptor.{Descriptor}
use Rattle.model.specs.declared.Loading.{Loading}
use Rattle.model.specs.declared.Spot.{Spot}
use Rattle.model.specs.declared.Verdict.TheVariants.{Passes, Refuses}
use Rattle.model.specs.declared.Spot.TheVariants.{Nowhere, At}
use Rattle.model.specs.Stored.{no_file, area_size}
use Rattle.model.specs.Table.{binary, simulated, size_of, total, admit_of, passed, table_passes, spot_in, spot_from}
use Rattle.model.specs.Table.{spot_of, rules_ok}
use Rattle.model.specs.Loads.{file_list, with_file}
use Rattle.lists.specs.Truth.{and_l, and_r, and_i}

-- a place that ends by n
abbrev LiesBy : ℕ → Spot → Type 0
LiesBy n Nowhere = Unit {0}
LiesBy n (At base size) = base + size ≤ n

-- record nn of records end to end ends with the last at the latest
record_ends : (base nn size count : ℕ) → 1 ≤ nn → nn ≤ count → base + (nn - 1) * size + size ≤ base + size * count
record_ends base zero size count h k = absurd (omega arith)
record_ends base (suc m) size count h k =
    let e : suc m * size ≤ count * size = mul-le-mul_right size k in
    rw (suc-sub-suc, sub-zero, mul_comm size count) (omega (arith, suc-mul m size))

-- a record lies in its file: binary or not, simulated or not
file_lies : (d : Descriptor) (base nn : ℕ) (b c : Bool)
    → LiesBy (base + cond b (256 * d.recsize + d.numrec) (cond c 0 (d.recsize * d.numrec)))
    (cond b (cond (eqb nn 0) (At base (cond b (256 * d.recsize + d.numrec) (cond c 0 (d.recsize * d.numrec))))
    Nowhere)
    (cond c Nowhere (cond (leb 1 nn && leb nn d.numrec) (At (base + (nn - 1) * d.recsize) d.recsize) Nowhere)))
file_lies d base nn true c = by_cond (LiesBy _) (eqb nn 0) (λ e. omega arith) (λ e. tt)
file_lies d base nn false true = tt
file_lies d base nn false false =
    let a = leb 1 nn in
    let b = leb nn d.numrec in
    by_cond (LiesBy _) (a && b)
    (λ e. record_ends base nn d.recsize d.numrec (leb-true 1 nn (and_l a b e))
    (leb-true nn d.numrec (and_r a b e)))
    (λ e. tt)

spot_in_lies : (d : Descriptor) (base nn : ℕ) → LiesBy (base + size_of d) (spot_in d base nn)
spot_in_lies d base nn = file_lies d base nn (eqb d.eftype binary) (eqb d.eftype simulated)

lies_later : (n m : ℕ) (x : Spot) → n ≤ m → LiesBy n x → LiesBy m x
lies_later n m Nowhere h k = tt
lies_later n m (At base size) h k = omega arith

spot_from_lies : (files : List Descriptor) (base sfi nn : ℕ) → LiesBy (base + total files) (spot_from files base sfi nn)
unfolding spot_from total
spot_from_lies [] base sfi nn = tt
spot_from_lies (d ∷ ds) base sfi nn =
    by_cond (LiesBy _) (eqb d.sfi sfi)
    (λ e. lies_later (base + size_of d) (base + (size_of d + total ds)) (spot_in d base nn) (omega arith)
    (spot_in_lies d base nn))
    (λ e. lies_later (base + size_of d + total ds) (base + (size_of d + total ds))
    (spot_from ds (base + size_of d) sfi nn) (omega arith)
    (spot_from_lies ds (base + size_of d) sfi nn))

spot_of_lies : (files : List Descriptor) (sfi nn : ℕ) → LiesBy (total files) (spot_of files sfi nn)
unfolding spot_of
spot_of_lies files sfi nn =
    by_cond (LiesBy (total files)) (eqb sfi 0) (λ e. tt) (λ e. rw zero-add at (spot_from_lies files 0 sfi nn))

-- A RECORD LIES WITHIN ITS FILE, THE FILES END TO END
pub spot_within : (files : List Descriptor) (sfi nn base size : ℕ) → spot_of files sfi nn ≡ At base size
    → base + size ≤ total files
spot_within files sfi nn base size e = subst (LiesBy (total files)) e (spot_of_lies files sfi nn)

-- one descriptor more
total_more : (files : List Descriptor) (n : ℕ) → total (take (suc n) files) ≤ total (take n files) + size_of
    (get_or files n no_file)
unfolding total
total_more [] zero = omega arith
total_more [] (suc n) = omega arith
total_more (d ∷ ds) zero = omega arith
total_more (d ∷ ds) (suc n) = let h : total (take (suc n) ds) ≤ total (take n ds) + size_of (get_or ds n no_file) =
    total_more ds n in omega arith

-- what passes has passed both the rules and the total
passed_both : (a b : Bool) (v w : ℕ) → passed (cond a (cond b (Passes 0) (Refuses v)) (Refuses w)) ≡ true
    → (a ≡ true) × (b ≡ true)
passed_both true true v w e = (refl, refl)
passed_both true false v w e = (refl, e)
passed_both false b v w e = (e, cc)

pub admitted_total : (d : Descriptor) (before : List Descriptor) → passed (admit_of d before) ≡ true
    → total before + size_of d ≤ area_size
unfolding admit_of
admitted_total d before e =
    leb-true (total before + size_of d) area_size (passed_both (rules_ok d before)
    (leb (total before + size_of d) area_size) 0x6A84 0x6A80 e).1

-- WHAT THE FILES TAKE TOGETHER IS WITHIN THE FILE AREA
pub total_passes : (files : List Descriptor) (n : ℕ) → table_passes files n ≡ true → total (take n files) ≤ area_size
unfolding table_passes
total_passes files zero e = unfold total in omega arith
total_passes files (suc n) e =
    let h : total (take n files) + size_of (get_or files n no_file) ≤ area_size
    = admitted_total (get_or files n no_file) (take n files)
    (and_r (table_passes files n) (passed (admit_of (get_or files n no_file) (take n files))) e) in
    omega (arith, total_more files n)

-- a descriptor set behind the first n leaves them
passes_set : (files : List Descriptor) (n m : ℕ) (d : Descriptor) → n ≤ m
    → table_passes (set files m d) n ≡ table_passes files n
unfolding table_passes
passes_set files zero m d h = refl
passes_set files (suc n) m d h =
    ap₂ ◌&&◌ (passes_set files n m d (omega arith))
    (ap₂ (λ (x : Descriptor) (xs : List Descriptor). passed (admit_of x xs))
    (get_or-set_other files m n d no_file (omega arith)) (take-set-le n files m d (omega arith)))

-- a descriptor that passes after the first n, set behind them
passes_next : (files : List Descriptor) (n : ℕ) (d : Descriptor)
    → table_passes files n ≡ true → n < length files → passed (admit_of d (take n files)) ≡ true
    → table_passes (set files n d) (suc n) ≡ true
unfolding table_passes
passes_next files n d e h p =
    and_i _ _ (passes_set files n n d (omega arith) ∙ e)
    (rw (get_or-set_same files n d no_file, take-set-le n files n d (le_refl n)) p)

pub table_more : (files : List Descriptor) (n : ℕ) (d : Descriptor)
    → table_passes files n ≡ true → n < length files → passed (admit_of d (take n files)) ≡ true
    → table_passes (set files n d) (n + 1) ≡ true
table_more files n d e h p = rw add-one (passes_next files n d e h p)

-- the file list with one more
pub file_list_more : (d : Descriptor) (l : Loading) → l.count < length l.files
    → file_list (with_file d l) ≡ file_list l ++ (d ∷ [])
file_list_more d l h = rw add-one (take-suc-set l.files l.count d h)
