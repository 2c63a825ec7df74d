-- Where records lie: each within its file, files one behind the other; two records do not overlap.
use Prim.Native.Nat.{ℕ, suc, ◌+◌, ◌-◌, ◌*◌, ◌/◌, ◌%◌, ◌≤◌, ◌<◌}
use mathlib.Core.Path.{◌≡◌, refl, sym, ◌∙◌, subst}
use mathlib.Core.Bool.{Bool, true, false, cond, ◌&&◌}
use mathlib.Core.List.{List, [], ◌∷◌}
use native.Mathlib.Omega.{arith}
use native.Mathlib.Nat.{suc-mul, mul_comm, mul-le-mul_right}
use native.Mathlib.Numerals.{lt_of_le_of_ne}
use lib.Dec.{eqb, leb, ltb}
use borrow.Author.Tests.{eqb-true, leb-true, ltb-true, ltb-false}
use Rattle.model.specs.declared.Descriptor.{Descriptor}
use Rattle.model.specs.declared.Spot.{Spot}
use Rattle.model.specs.declared.Spot.TheVariants.{Nowhere, At}
use Rattle.model.specs.Table.{binary, simulated, size_of, total, spot_in, spot_from, spot_of}
use Rattle.model.specs.Rules.{tag_spot}
use Rattle.lists.specs.Truth.{and_l, and_r}

nowhere_not : (b z : ℕ) → Nowhere ≡ At b z → ⊥
nowhere_not b z e = subst Is e tt
  where
    Is : Spot → Type 0
    Is Nowhere = Unit {0}
    Is (At b z) = ⊥

-- a part of base on, n bytes long
abbrev pub Within : ℕ → ℕ → ℕ → ℕ → Type 0
Within base n b z = (base ≤ b) × (b + z ≤ base + n)

times_room : (m n k : ℕ) → m < n → m * k + k ≤ n * k
times_room m n k h = let f : suc m * k ≤ n * k = mul-le-mul_right k h in rw (← suc-mul m k) f

-- the three kinds of files: binary, simulated, and of records
in_file : (x y v w : Bool) (base nn big rec num b z : ℕ) → (w ≡ true → (1 ≤ nn) × (nn ≤ num))
    → cond x (cond y (At base (cond x big (cond v 0 (rec * num)))) Nowhere)
    (cond v Nowhere (cond w (At (base + (nn - 1) * rec) rec) Nowhere)) ≡ At b z
    → Within base (cond x big (cond v 0 (rec * num))) b z
in_file true true v w base nn big rec num b z f e = let p : base ≡ b = cc in let q : big ≡ z = cc in omega arith
in_file true false v w base nn big rec num b z f e = absurd (nowhere_not b z e)
in_file false y true w base nn big rec num b z f e = absurd (nowhere_not b z e)
in_file false y false false base nn big rec num b z f e = absurd (nowhere_not b z e)
in_file false y false true base nn big rec num b z f e =
    let p : base + (nn - 1) * rec ≡ b = cc in
    let q : rec ≡ z = cc in
    let g : (1 ≤ nn) × (nn ≤ num) = f refl in
    let t : (nn - 1) * rec + rec ≤ num * rec = times_room (nn - 1) num rec (omega arith) in
    let c : rec * num ≡ num * rec = mul_comm rec num in
    omega arith

pub spot_in_lem : (d : Descriptor) (base nn b z : ℕ) → spot_in d base nn ≡ At b z → Within base (size_of d) b z
spot_in_lem d base nn b z e =
    in_file (eqb d.eftype binary) (eqb nn 0) (eqb d.eftype simulated) (leb 1 nn && leb nn d.numrec) base nn
    (256 * d.recsize + d.numrec) d.recsize d.numrec b z
    (λ q. (leb-true 1 nn (and_l _ (leb nn d.numrec) q), leb-true nn d.numrec (and_r (leb 1 nn) _ q))) e

pub spot_within : (files : List Descriptor) (base sfi nn b z : ℕ) → spot_from files base sfi nn ≡ At b z
    → Within base (total files) b z
unfolding spot_from total
spot_within [] base sfi nn b z e = absurd (nowhere_not b z e)
spot_within (d ∷ ds) base sfi nn b z e = go (eqb d.sfi sfi) (λ q. spot_within ds (base + size_of d) sfi nn b z q) e
  where
    go : (x : Bool) → (spot_from ds (base + size_of d) sfi nn ≡ At b z → Within (base + size_of d) (total ds) b z)
        → cond x (spot_in d base nn) (spot_from ds (base + size_of d) sfi nn) ≡ At b z
        → Within base (size_of d + total ds) b z
    go true ih q = let f : Within base (size_of d) b z = spot_in_lem d base nn b z q in omega arith
    go false ih q = let f : Within (base + size_of d) (total ds) b z = ih q in omega arith

-- two parts that do not overlap
pub data Apart (b z c y : ℕ) : Type 0 where
  before : b + z ≤ c → Apart b z c y
  behind : c + y ≤ b → Apart b z c y

records_apart : (base rec m n : ℕ) → 1 ≤ m → 1 ≤ n → (m ≡ n → ⊥)
    → Apart (base + (m - 1) * rec) rec (base + (n - 1) * rec) rec
records_apart base rec m n k l f = go (ltb m n) refl
  where
    go : (x : Bool) → ltb m n ≡ x → Apart (base + (m - 1) * rec) rec (base + (n - 1) * rec) rec
    go true q =
        let h : m < n = ltb-true m n q in
        let t : (m - 1) * rec + rec ≤ (n - 1) * rec = times_room (m - 1) (n - 1) rec (omega arith) in
        before (omega arith)
    go false q =
        let h : n ≤ m = ltb-false m n q in
        let i : n < m = lt_of_le_of_ne h (λ (e : n ≡ m). f (sym e)) in
        let t : (n - 1) * rec + rec ≤ (m - 1) * rec = times_room (n - 1) (m - 1) rec (omega arith) in
        behind (omega arith)

two_records : (x y y' v w w' : Bool) (base m n big rec b z c g : ℕ) → (y ≡ true → y' ≡ true → ⊥) → (w ≡ true → 1 ≤ m)
    → (w' ≡ true → 1 ≤ n) → (m ≡ n → ⊥)
    → cond x (cond y (At base big) Nowhere) (cond v Nowhere (cond w (At (base + (m - 1) * rec) rec) Nowhere)) ≡ At b z
    → cond x (cond y' (At base big) Nowhere) (cond v Nowhere (cond w' (At (base + (n - 1) * rec) rec) Nowhere))
    ≡ At c g
    → Apart b z c g
two_records true true true v w w' base m n big rec b z c g f k l h p q = absurd (f refl refl)
two_records true false y' v w w' base m n big rec b z c g f k l h p q = absurd (nowhere_not b z p)
two_records true true false v w w' base m n big rec b z c g f k l h p q = absurd (nowhere_not c g q)
two_records false y y' true w w' base m n big rec b z c g f k l h p q = absurd (nowhere_not b z p)
two_records false y y' false false w' base m n big rec b z c g f k l h p q = absurd (nowhere_not b z p)
two_records false y y' false true false base m n big rec b z c g f k l h p q = absurd (nowhere_not c g q)
two_records false y y' false true true base m n big rec b z c g f k l h p q =
    let b_is : base + (m - 1) * rec ≡ b = cc in
    let z_is : rec ≡ z = cc in
    let c_is : base + (n - 1) * rec ≡ c = cc in
    let g_is : rec ≡ g = cc in
    moved (records_apart base rec m n (k refl) (l refl) h) b_is z_is c_is g_is
  where
    moved : {b₁ z₁ c₁ g₁ b₂ z₂ c₂ g₂ : ℕ} → Apart b₁ z₁ c₁ g₁ → b₁ ≡ b₂ → z₁ ≡ z₂ → c₁ ≡ c₂ → g₁ ≡ g₂
        → Apart b₂ z₂ c₂ g₂
    moved (before i) p q r s = before (omega arith)
    moved (behind i) p q r s = behind (omega arith)

one_file : (d : Descriptor) (base m n b z c g : ℕ) → (m ≡ n → ⊥) → spot_in d base m ≡ At b z → spot_in d base n ≡ At c g
    → Apart b z c g
one_file d base m n b z c g h p q =
    two_records (eqb d.eftype binary) (eqb m 0) (eqb n 0) (eqb d.eftype simulated)
    (leb 1 m && leb m d.numrec) (leb 1 n && leb n d.numrec) base m n (size_of d) d.recsize b z c g
    (λ i j. h (eqb-true m 0 i ∙ sym (eqb-true n 0 j)))
    (λ i. leb-true 1 m (and_l _ (leb m d.numrec) i)) (λ i. leb-true 1 n (and_l _ (leb n d.numrec) i)) h p q

spots_apart : (files : List Descriptor) (base s m t n b z c g : ℕ) → (s ≡ t → m ≡ n → ⊥)
    → spot_from files base s m ≡ At b z → spot_from files base t n ≡ At c g → Apart b z c g
unfolding spot_from
spots_apart [] base s m t n b z c g h p q = absurd (nowhere_not b z p)
spots_apart (d ∷ ds) base s m t n b z c g h p q =
    go (eqb d.sfi s) (eqb d.sfi t) refl refl (λ i j. spots_apart ds (base + size_of d) s m t n b z c g h i j) p q
  where
    go : (x y : Bool) → eqb d.sfi s ≡ x → eqb d.sfi t ≡ y
        → (spot_from ds (base + size_of d) s m ≡ At b z → spot_from ds (base + size_of d) t n ≡ At c g → Apart b z c g)
        → cond x (spot_in d base m) (spot_from ds (base + size_of d) s m) ≡ At b z
        → cond y (spot_in d base n) (spot_from ds (base + size_of d) t n) ≡ At c g → Apart b z c g
    go true true i j ih k l = one_file d base m n b z c g (h (sym (eqb-true d.sfi s i) ∙ eqb-true d.sfi t j)) k
        l
    go true false i j ih k l =
        let u : Within base (size_of d) b z = spot_in_lem d base m b z k in
        let v : Within (base + size_of d) (total ds) c g = spot_within ds (base + size_of d) t n c g l in
        before (omega arith)
    go false true i j ih k l =
        let u : Within base (size_of d) c g = spot_in_lem d base n c g l in
        let v : Within (base + size_of d) (total ds) b z = spot_within ds (base + size_of d) s m b z k in
        behind (omega arith)
    go false false i j ih k l = ih k l

listed : (x : Bool) (p : Spot) (b z : ℕ) → cond x Nowhere p ≡ At b z → p ≡ At b z
listed true p b z e = absurd (nowhere_not b z e)
listed false p b z e = e

spot_listed : (files : List Descriptor) (tag b z : ℕ) → tag_spot files tag ≡ At b z
    → spot_from files 0 (tag / 256) (tag % 256) ≡ At b z
unfolding spot_of
spot_listed files tag b z e = listed (eqb (tag / 256) 0) (spot_from files 0 (tag / 256) (tag % 256)) b z e

-- a record lies within the files
pub tag_within : (files : List Descriptor) (tag b z : ℕ) → tag_spot files tag ≡ At b z → b + z ≤ total files
tag_within files tag b z e = let f : Within 0 (total files) b z =
    spot_within files 0 (tag / 256) (tag % 256) b z (spot_listed files tag b z e) in omega arith

-- records of different tags do not overlap
pub tags_apart : (files : List Descriptor) (t u b z c g : ℕ) → (t ≡ u → ⊥) → tag_spot files t ≡ At b z
    → tag_spot files u ≡ At c g → Apart b z c g
tags_apart files t u b z c g h p q =
    spots_apart files 0 (t / 256) (t % 256) (u / 256) (u % 256) b z c g
    (λ (i : t / 256 ≡ u / 256) (j : t % 256 ≡ u % 256). h (omega arith))
    (spot_listed files t b z p) (spot_listed files u c g q)
