-- Groupings of rows 2 to 10 leave the file area alone, and the file table within it.
use Prim.Native.Nat.{ℕ, zero, suc, ◌+◌, ◌-◌, ◌*◌, ◌/◌, ◌≤◌, ◌<◌}
use mathlib.Core.Path.{◌≡◌, refl, sym, ◌∙◌}
use mathlib.Core.Bool.{Bool, true, false, cond}
use mathlib.Core.List.{List, [], ◌∷◌, ◌++◌}
use native.Mathlib.Omega.{arith}
use native.Mathlib.Nat.{div-lt_iff_lt-mul}
use native.Mathlib.Numerals.{add-one}
use lib.Dec.{eqb, leb, lit≤}
use lib.ListN.{length, take, drop, set, length-set, length-take}
use lib.Seq.{take-suc-set}
use borrow.Author.Tests.{eqb-true, leb-true, ltb-true}
use Rattle.lists.specs.Choice.{by_cond}
use Rattle.model.specs.declared.Row.{Row}
use Rattle.model.specs.declared.Descriptor.{Descriptor}
use Rattle.model.specs.declared.Open.{Open}
use Rattle.model.specs.declared.Open.TheVariants.{Shut, Table, Record}
use Rattle.model.specs.declared.Head.{Head}
use Rattle.model.specs.declared.Verdict.{Verdict}
use Rattle.model.specs.declared.Verdict.TheVariants.{Passes, Refuses}
use Rattle.model.specs.Stored.{area_size}
use Rattle.model.specs.Rows.{descriptor_size, row_table, row_at, in_row, row_from, row_of, none_from}
use Rattle.model.specs.Table.{table_limit, accesses_ok, df_ok, ef_ok, size_of, rules_ok, total, admit_of, descriptor_of}
use Rattle.model.specs.Loads.{State, file_list, with_open, with_taken, changed}
use Rattle.model.specs.Rules.{Result, went, asked, failed, Rule, thence, ◌>>◌, does, described, startup_ok, startup}
use Rattle.model.specs.Rules.{kept, table_done, table_byte, in_table, table_bytes, fed, spanned, whole, rule_h}
use Rattle.theorem_cutting.proofs.Opened.{Leaves}
use Rattle.lists.specs.Truth.{and_l, never}

-- the file table: 31 places, and the files that it lists fit in the file area
pub record Fits (files : List Descriptor) (count : ℕ) : Type 0 where
  pub places : length files ≡ table_limit
  pub used : count ≤ table_limit
  pub within : total (take count files) ≤ area_size

total_last : (ds : List Descriptor) (d : Descriptor) → total (ds ++ (d ∷ [])) ≡ total ds + size_of d
unfolding total
total_last [] d = omega arith
total_last (e ∷ ds) d = rw (total_last ds d) (omega arith)

admitted : (x y : Bool) (w z n : ℕ) → cond x (cond y (Passes 0) (Refuses w)) (Refuses z) ≡ Passes n
    → (x ≡ true) × (y ≡ true)
admitted true true w z n e = (refl, refl)
admitted true false w z n e = (refl, cc)
admitted false y w z n e = (cc, cc)

-- a descriptor that passes
fits_more : (files : List Descriptor) (count n : ℕ) (d : Descriptor) → admit_of d (take count files) ≡ Passes n
    → Fits files count → Fits (set files count d) (count + 1)
unfolding admit_of rules_ok
fits_more files count n d e f =
    let a : (rules_ok d (take count files) ≡ true) × (leb (total (take count files) + size_of d) area_size ≡ true) =
    admitted (rules_ok d (take count files)) (leb (total (take count files) + size_of d) area_size) 0x6A84 0x6A80 n e in
    let few : length (take count files) < table_limit = ltb-true (length (take count files)) table_limit
    (and_l _ (accesses_ok d.ac d.nkey)
    (and_l _ (cond (eqb (length (take count files)) 0) (df_ok d) (ef_ok d (take count files))) a.0)) in
    let long : length (take count files) ≡ Prim.Native.Nat.min count (length files) = length-take count files in
    let here : length files ≡ 31 = f.places in
    let room : total (take count files) + size_of d ≤ area_size =
    leb-true (total (take count files) + size_of d) area_size a.1 in
    let lt : count < length files = omega arith in
    record {
      places = length-set files count d ∙ f.places;
      used = omega arith;
      within = rw (add-one count, take-suc-set files count d lt, total_last (take count files) d) room;
    }

-- what stays: the file area, and that the table fits
abbrev pub Stays : List ℕ → State → Type 0
Stays a s = (s.area ≡ a) × Fits s.load.files s.load.count

done_stays : (a : List ℕ) (n : ℕ) (s : State) → Stays a s → Stays a (table_done n s)
unfolding table_done
done_stays a zero s h = h
done_stays a (suc m) s h = h

described_stays : (a : List ℕ) (v : Verdict) (d : Descriptor) (n : ℕ) (s : State) → admit_of d (file_list s.load) ≡ v
    → Stays a s → Leaves (Stays a) (described v d n s)
described_stays a (Passes k) d n s e h = done_stays a n _ (
  h.0,
  fits_more s.load.files s.load.count k d e h.1,
)
described_stays a (Refuses w) d n s e h = tt

byte_stays : (a : List ℕ) (held n b : ℕ) (s : State) → Stays a s → Leaves (Stays a) (table_byte held n b s)
unfolding table_byte
byte_stays a held n b s h =
    by_cond (Leaves (Stays a)) (eqb (held + 1) descriptor_size)
    (λ q. described_stays a (admit_of (descriptor_of (set s.load.held held b)) (file_list s.load))
    (descriptor_of (set s.load.held held b)) n s refl h)
    (λ q. h)

in_stays : (a : List ℕ) (o : Open) (b : ℕ) (s : State) → Stays a s → Leaves (Stays a) (in_table o b s)
in_stays a Shut b s h = h
in_stays a (Table held missing) b s h = byte_stays a held (missing - 1) b s h
in_stays a (Record tag written missing) b s h = h

bytes_stay : (a bs : List ℕ) (s : State) → Stays a s → Leaves (Stays a) (table_bytes bs s)
unfolding table_bytes
bytes_stay a [] s h = h
bytes_stay a (b ∷ bs) s h = go (in_table s.load.running.pending b s)
    (in_stays a s.load.running.pending b s h) (λ s₁ k. bytes_stay a bs s₁ k)
  where
    go : (r : Result ℕ) → Leaves (Stays a) r → ((s₁ : State) → Stays a s₁ → Leaves (Stays a) (table_bytes bs s₁))
        → Leaves (Stays a) (thence r (λ n. table_bytes bs))
    go (went n s₁) k ih = ih s₁ k
    go (asked t s₁) k ih = tt
    go (failed w s₁) k ih = tt

kept_stays : (a : List ℕ) (capacity row : ℕ) (v : List ℕ) (s : State) → Stays a s
    → Leaves (Stays a) (kept capacity row v s)
unfolding kept startup
kept_stays a capacity row v s e =
    by_cond (λ (m : Rule ℕ). Leaves (Stays a) (m s)) (eqb row 2) (λ q. e)
    (λ q. by_cond (λ (m : Rule ℕ). Leaves (Stays a) (m s)) (eqb row 3)
    (λ f. by_cond (Leaves (Stays a)) (startup_ok v)
    (λ g. by_cond (Leaves (Stays a)) (leb (suc capacity) 6) (λ i. tt) (λ i. e)) (λ g. tt))
    (λ f. by_cond (λ (m : Rule ℕ). Leaves (Stays a) (m s)) (eqb row 4) (λ g. e) (λ g. e)))

-- the bytes that a value leaves, and the state
abbrev pub Gives : (List ℕ → State → Type 0) → Result (List ℕ) → Type 0
Gives P (went l s) = P l s
Gives P (asked t s) = Unit {0}
Gives P (failed w s) = Unit {0}

abbrev pub Leaving : List ℕ → List ℕ → List ℕ → State → Type 0
Leaving a rest left s = (left ≡ rest) × Stays a s

gives_then : (a rest : List ℕ) (r : Result ℕ) (f : State → State) → ((s : State) → Stays a s → Stays a (f s))
    → Leaves (Stays a) r
    → Gives (Leaving a rest) (thence r (λ n. does f >> went rest))
gives_then a rest (went n s) f k h = (refl, k s h)
gives_then a rest (asked t s) f k h = tt
gives_then a rest (failed w s) f k h = tt

gives_rest : (a rest : List ℕ) (r : Result ℕ) → Leaves (Stays a) r
    → Gives (Leaving a rest) (thence r (λ n. went rest))
gives_rest a rest (went n s) h = (refl, h)
gives_rest a rest (asked t s) h = tt
gives_rest a rest (failed w s) h = tt

-- a tag's row is one of 0 to 11
row_under : (tag r : ℕ) (xs : List Row) → 0 < r → row_from tag r xs < r + length xs
unfolding row_from
row_under tag r [] h = omega arith
row_under tag r (x ∷ xs) h = let k : row_from tag (suc r) xs < suc r + length xs =
    row_under tag (suc r) xs (omega arith) in
    by_cond (λ (m : ℕ). m < r + suc (length xs)) (in_row tag x) (λ q. omega arith) (λ q. omega arith)

row_few : (tag : ℕ) → row_of tag < 12
unfolding row_of row_table
row_few tag = row_under tag 1 row_table (lit≤ tt)

module _ (P : ℕ → Type 0) (p0 : P 0) (p1 : P 1) (p2 : P 2) (p3 : P 3) (p4 : P 4) (p5 : P 5) (p6 : P 6) (p7 : P 7)
    (p8 : P 8) (p9 : P 9) (p10 : P 10) (p11 : P 11) where
  under_twelve : (r : ℕ) → r < 12 → P r
  under_twelve zero h = p0
  under_twelve (suc zero) h = p1
  under_twelve (suc (suc zero)) h = p2
  under_twelve (suc (suc (suc zero))) h = p3
  under_twelve (suc (suc (suc (suc zero)))) h = p4
  under_twelve (suc (suc (suc (suc (suc zero))))) h = p5
  under_twelve (suc (suc (suc (suc (suc (suc zero)))))) h = p6
  under_twelve (suc (suc (suc (suc (suc (suc (suc zero))))))) h = p7
  under_twelve (suc (suc (suc (suc (suc (suc (suc (suc zero)))))))) h = p8
  under_twelve (suc (suc (suc (suc (suc (suc (suc (suc (suc zero))))))))) h = p9
  under_twelve (suc (suc (suc (suc (suc (suc (suc (suc (suc (suc zero)))))))))) h = p10
  under_twelve (suc (suc (suc (suc (suc (suc (suc (suc (suc (suc (suc zero))))))))))) h = p11
  under_twelve (suc (suc (suc (suc (suc (suc (suc (suc (suc (suc (suc (suc n)))))))))))) h = absurd (omega arith)

  rows_all : (tag : ℕ) → P (row_of tag)
  rows_all tag = under_twelve (row_of tag) (row_few tag)

-- a row before 11 may come only where 11 is not taken
below : (rows k : ℕ) → 0 < k → k ≤ 1024 → rows / k ≡ 0 → rows < 1024
below rows k p l e = let f : rows < 1 * k = (div-lt_iff_lt-mul {y = 1} p).0 (omega arith) in omega arith

Early : ℕ → ℕ → Type 0
Early rows r = eqb r 11 ≡ false → none_from rows r ≡ true → rows < 1024

pub early_row : (rows tag : ℕ) → eqb (row_of tag) 11 ≡ false → none_from rows (row_of tag) ≡ true → rows < 1024
unfolding none_from Early
early_row rows tag =
    rows_all (Early rows)
    (λ e f. below rows 1 (lit≤ tt) (lit≤ tt) (eqb-true (rows / 1) 0 f))
    (λ e f. below rows 1 (lit≤ tt) (lit≤ tt) (eqb-true (rows / 1) 0 f))
    (λ e f. below rows 2 (lit≤ tt) (lit≤ tt) (eqb-true (rows / 2) 0 f))
    (λ e f. below rows 4 (lit≤ tt) (lit≤ tt) (eqb-true (rows / 4) 0 f))
    (λ e f. below rows 8 (lit≤ tt) (lit≤ tt) (eqb-true (rows / 8) 0 f))
    (λ e f. below rows 16 (lit≤ tt) (lit≤ tt) (eqb-true (rows / 16) 0 f))
    (λ e f. below rows 32 (lit≤ tt) (lit≤ tt) (eqb-true (rows / 32) 0 f))
    (λ e f. below rows 64 (lit≤ tt) (lit≤ tt) (eqb-true (rows / 64) 0 f))
    (λ e f. below rows 128 (lit≤ tt) (lit≤ tt) (eqb-true (rows / 128) 0 f))
    (λ e f. below rows 256 (lit≤ tt) (lit≤ tt) (eqb-true (rows / 256) 0 f))
    (λ e f. below rows 512 (lit≤ tt) (lit≤ tt) (eqb-true (rows / 512) 0 f)) (λ e f. absurd (never (sym e)))
    tag

-- a row that may run on, and is not row 11, is row 5
Tabled : ℕ → Type 0
Tabled r = (row_at r).spans ≡ true → eqb r 11 ≡ false → eqb r 5 ≡ true

table_row_lem : (tag : ℕ) → (row_at (row_of tag)).spans ≡ true → eqb (row_of tag) 11 ≡ false → eqb (row_of tag) 5 ≡ true
unfolding row_at row_table Tabled
table_row_lem tag =
    rows_all Tabled (λ e f. absurd (never e)) (λ e f. absurd (never e)) (λ e f. absurd (never e))
    (λ e f. absurd (never e)) (λ e f. absurd (never e)) (λ e f. refl)
    (λ e f. absurd (never e)) (λ e f. absurd (never e)) (λ e f. absurd (never e)) (λ e f. absurd (never e))
    (λ e f. absurd (never e)) (λ e f. absurd (never (sym f))) tag

-- rule h of a row before 11
table_stays : (a : List ℕ) (row : ℕ) (h : Head) (rest : List ℕ) (s : State) → eqb row 5 ≡ true → Stays a s
    → Gives (Leaving a (drop h.len rest)) (spanned row h rest s)
unfolding spanned fed
table_stays a row h rest s q k =
    let s₁ : State = changed (λ l. with_open (Table 0 h.len) l.held l) s in
    rw q (gives_rest a (drop h.len rest) (table_bytes (take h.len rest) s₁)
    (bytes_stay a (take h.len rest) s₁ k))

whole_stays : (a : List ℕ) (capacity row : ℕ) (h : Head) (rest : List ℕ) (s : State) → Stays a s
    → Gives (Leaving a (drop h.len rest)) (whole capacity row h rest s)
unfolding whole
whole_stays a capacity row h rest s k =
    gives_then a (drop h.len rest) (kept capacity row (take h.len rest) s) (changed (with_taken row)) (λ s₁ j. j)
    (kept_stays a capacity row (take h.len rest) s k)

pub before_stays : (a : List ℕ) (capacity : ℕ) (h : Head) (rest : List ℕ) (s : State)
    → eqb (row_of h.tag) 11 ≡ false → Stays a s
    → Gives (Leaving a (drop h.len rest)) (rule_h capacity (row_of h.tag) h rest s)
unfolding rule_h
before_stays a capacity h rest s q k =
    by_cond (λ (m : Rule (List ℕ)). Gives (Leaving a (drop h.len rest)) (m s)) (row_at (row_of h.tag)).spans
    (λ e. table_stays a (row_of h.tag) h rest s (table_row_lem h.tag e q) k)
    (λ e. whole_stays a capacity (row_of h.tag) h rest s k)
