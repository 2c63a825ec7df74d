-- Values laid into their records, one after another: each stays, and what they leave out stays as it was.
use Prim.Native.Nat.{ℕ, zero, suc, ◌+◌, ◌-◌, ◌≤◌, ◌<◌}
use mathlib.Core.Path.{◌≡◌, refl, sym, ◌∙◌, subst}
use mathlib.Core.Bool.{Bool, true, false}
use mathlib.Core.List.{List, [], ◌∷◌, ◌++◌}
use native.Mathlib.Omega.{arith}
use native.Mathlib.Nat.{add-zero, add-suc, suc-add}
use lib.Dec.{leb}
use lib.ListN.{length, get_or, drop, set, length-set, length-take, length-drop, length-append, length-replicate}
use lib.ListN.{get_or-eq_default}
use lib.Seq.{get_or-set_same, get_or-set_other, get_or-take, get_or-drop, ext_get_or}
use borrow.Author.Tests.{leb-true, leb-false}
use Rattle.lists.specs.Bytes.{part, zeros, padded}
use Rattle.lists.specs.Over.{overwrite, length_over}
use Rattle.model.specs.declared.Descriptor.{Descriptor}
use Rattle.model.specs.declared.Spot.{Spot}
use Rattle.model.specs.declared.Spot.TheVariants.{Nowhere, At}
use Rattle.model.specs.Table.{total}
use Rattle.model.specs.Rules.{tag_spot, laid}
use Rattle.theorem_cutting.specs.Contents.{Grouped, Each, Kept, Outside}
use Rattle.theorem_cutting.proofs.Spots.{Apart, before, behind, tag_within, tags_apart}

-- bytes beside a run that is laid over a list, and in it
over_before : (xs a : List ℕ) (i j : ℕ) → j < i → get_or (overwrite a i xs) j 0 ≡ get_or a j 0
unfolding overwrite
over_before [] a i j h = refl
over_before (x ∷ xs) a i j h = over_before xs (set a i x) (suc i) j (omega arith) ∙ get_or-set_other a i j x 0
    (omega arith)

over_behind : (xs a : List ℕ) (i j : ℕ) → i + length xs ≤ j → get_or (overwrite a i xs) j 0 ≡ get_or a j 0
unfolding overwrite
over_behind [] a i j h = refl
over_behind (x ∷ xs) a i j h = over_behind xs (set a i x) (suc i) j (omega arith) ∙ get_or-set_other a i j x 0
    (omega arith)

over_cons : (x : ℕ) (xs a : List ℕ) (i : ℕ) → overwrite a i (x ∷ xs) ≡ overwrite (set a i x) (suc i) xs
unfolding overwrite
over_cons x xs a i = refl

over_inside : (xs a : List ℕ) (i k : ℕ) → k < length xs → i + length xs ≤ length a
    → get_or (overwrite a i xs) (i + k) 0 ≡ get_or xs k 0
over_inside [] a i k h l = absurd (omega arith)
over_inside (x ∷ xs) a i zero h l =
    rw (add-zero i, over_cons x xs a i) (over_before xs (set a i x) (suc i) i (omega arith) ∙ get_or-set_same a i x 0
    (omega arith))
over_inside (x ∷ xs) a i (suc k) h l =
    rw (add-suc i k, ← suc-add i k, over_cons x xs a i)
    (over_inside xs (set a i x) (suc i) k (omega arith) (rw (length-set a i x) (omega arith)))

-- the values of groupings, laid one after another
unfoldable pub laid_all : List Descriptor → List Grouped → List ℕ → List ℕ
laid_all files [] a = a
laid_all files (g ∷ gs) a = laid_all files gs (laid (tag_spot files g.tag) 0 g.bytes a)

pub laid_last : (files : List Descriptor) (gs : List Grouped) (g : Grouped) (a : List ℕ)
    → laid_all files (gs ++ (g ∷ [])) a ≡ laid (tag_spot files g.tag) 0 g.bytes (laid_all files gs a)
unfolding laid_all
laid_last files [] g a = refl
laid_last files (x ∷ gs) g a = laid_last files gs g (laid (tag_spot files x.tag) 0 x.bytes a)

-- a grouping has a record, and fits in it
pub record Placed (files : List Descriptor) (g : Grouped) : Type 0 where
  pub base : ℕ
  pub size : ℕ
  pub spot : tag_spot files g.tag ≡ At base size
  pub fits : length g.bytes ≤ size

length_laid : (x : Spot) (v a : List ℕ) → length (laid x 0 v a) ≡ length a
length_laid Nowhere v a = refl
length_laid (At base size) v a = length_over v a (base + 0)

-- a byte outside a record
module _ (files : List Descriptor) (i : ℕ) where
  outside_at : (base size : ℕ) (v a : List ℕ) → length v ≤ size → (base ≤ i → base + size ≤ i) → (x : Bool)
      → leb base i ≡ x
      → get_or (overwrite a (base + 0) v) i 0 ≡ get_or a i 0
  outside_at base size v a l o true q = let f : base + size ≤ i =
      o (leb-true base i q) in over_behind v a (base + 0) i (omega arith)
  outside_at base size v a l o false q = let f : i < base =
      leb-false base i q in over_before v a (base + 0) i (omega arith)

  outside_one : (g : Grouped) (a : List ℕ) → Placed files g → Outside files i g
      → get_or (laid (tag_spot files g.tag) 0 g.bytes a) i 0 ≡ get_or a i 0
  outside_one g a p o =
      rw p.spot (outside_at p.base p.size g.bytes a p.fits (o p.base p.size p.spot)
      (leb p.base i) refl)

  -- and outside all of them
  pub outside_all : (gs : List Grouped) (a : List ℕ) → Each (Placed files) gs → Each (Outside files i) gs
      → get_or (laid_all files gs a) i 0 ≡ get_or a i 0
  unfolding laid_all
  outside_all [] a Each.none Each.none = refl
  outside_all (g ∷ gs) a (Each.more p ps) (Each.more o os) =
      outside_all gs (laid (tag_spot files g.tag) 0 g.bytes a) ps os ∙ outside_one g a p o

-- zeros
pub zeros_get : (n i : ℕ) → get_or (zeros n) i 0 ≡ 0
zeros_get zero i = refl
zeros_get (suc n) zero = refl
zeros_get (suc n) (suc i) = zeros_get n i

padded_get : (v : List ℕ) (n k : ℕ) → get_or (v ++ zeros n) k 0 ≡ get_or v k 0
padded_get [] n k = zeros_get n k
padded_get (x ∷ v) n zero = refl
padded_get (x ∷ v) n (suc k) = padded_get v n k

-- a part of a list, by its bytes
part_padded : (area : List ℕ) (base size : ℕ) (v : List ℕ) → length v ≤ size → base + size ≤ length area
    → ((k : ℕ) → k < size → get_or area (base + k) 0 ≡ get_or v k 0) → part area base size ≡ padded size v
part_padded area base size v f l h =
    ext_get_or 0 (part area base size) (padded size v) (long ∙ sym wide)
    (λ k lt. let t : k < size = subst (λ (m : ℕ). k < m) long lt in
    get_or-take size (drop base area) k 0 t ∙ get_or-drop base area k 0 ∙ h k t ∙ sym (padded_get v (size - length v) k))
  where
    long : length (part area base size) ≡ size
    long = rw (length-take size (drop base area), length-drop base area) (omega arith)

    wide : length (padded size v) ≡ size
    wide = rw (length-append v (zeros (size - length v)), length-replicate {A = ℕ} (size - length v) 0) (omega arith)

-- tags strictly rising
pub data Rising : List Grouped → Type 0 where
  none : Rising []
  more : {g : Grouped} {gs : List Grouped} → Each (λ (h : Grouped). g.tag < h.tag) gs → Rising gs → Rising (g ∷ gs)

pub each_last : {P : Grouped → Type 0} {gs : List Grouped} {g : Grouped} → Each P gs → P g → Each P (gs ++ (g ∷ []))
each_last Each.none h = Each.more h Each.none
each_last (Each.more p ps) h = Each.more p (each_last ps h)

pub rising_last : (gs : List Grouped) (g : Grouped) → Rising gs → Each (λ (h : Grouped). h.tag < g.tag) gs
    → Rising (gs ++ (g ∷ []))
rising_last [] g none Each.none = more Each.none none
rising_last (x ∷ gs) g (more a r) (Each.more h hs) = more (each_last a h) (rising_last gs g r hs)

-- a list is zero where a grouping's record is
abbrev Blank : List Descriptor → List ℕ → Grouped → Type 0
Blank files a g = (base size : ℕ) → tag_spot files g.tag ≡ At base size → (k : ℕ) → k < size
    → get_or a (base + k) 0 ≡ 0

module _ (files : List Descriptor) where
  -- a byte of one record is outside another's
  other_outside : (g h : Grouped) (base size k : ℕ) → tag_spot files g.tag ≡ At base size → k < size
      → g.tag < h.tag → Outside files (base + k) h
  other_outside g h base size k p l t c y q i = by (tags_apart files g.tag h.tag base size c y
      (λ (e : g.tag ≡ h.tag). omega arith) p q)
    where
      by : Apart base size c y → c + y ≤ base + k
      by (before j) = absurd (omega arith)
      by (behind j) = omega arith

  outside_later : (g : Grouped) (gs : List Grouped) (base size k : ℕ) → tag_spot files g.tag ≡ At base size
      → k < size
      → Each (λ (h : Grouped). g.tag < h.tag) gs → Each (Outside files (base + k)) gs
  outside_later g [] base size k p l Each.none = Each.none
  outside_later g (h ∷ gs) base size k p l (Each.more t ts) =
      Each.more (other_outside g h base size k p l t) (outside_later g gs base size k p l ts)

  -- what one value leaves blank
  earlier_outside : (g h : Grouped) (base size k : ℕ) → tag_spot files h.tag ≡ At base size → k < size
      → g.tag < h.tag → Outside files (base + k) g
  earlier_outside g h base size k p l t c y q i =
      by (tags_apart files h.tag g.tag base size c y (λ (e : h.tag ≡ g.tag). omega arith) p q)
    where
      by : Apart base size c y → c + y ≤ base + k
      by (before j) = absurd (omega arith)
      by (behind j) = omega arith

  blank_later : (g : Grouped) (gs : List Grouped) (a : List ℕ) → Placed files g
      → Each (λ (h : Grouped). g.tag < h.tag) gs → Each (Blank files a) gs
      → Each (Blank files (laid (tag_spot files g.tag) 0 g.bytes a)) gs
  blank_later g [] a p Each.none Each.none = Each.none
  blank_later g (h ∷ gs) a p (Each.more t ts) (Each.more b bs) =
      Each.more (λ base size q k l. outside_one files (base + k) g a p
      (earlier_outside g h base size k q l t) ∙ b base size q k l) (blank_later g gs a p ts bs)

  -- the bytes of a value that has just been laid
  laid_byte : (g : Grouped) (a : List ℕ) (p : Placed files g) → total files ≤ length a → Blank files a g → (k : ℕ)
      → k < p.size → (x : Bool) → leb (length g.bytes) k ≡ x
      → get_or (laid (tag_spot files g.tag) 0 g.bytes a) (p.base + k) 0 ≡ get_or g.bytes k 0
  laid_byte g a p w b k l true q =
      let f : length g.bytes ≤ k = leb-true (length g.bytes) k q in
      rw p.spot (over_behind g.bytes a (p.base + 0) (p.base + k) (omega arith))
      ∙ b p.base p.size p.spot k l ∙ sym (get_or-eq_default g.bytes 0 f)
  laid_byte g a p w b k l false q =
      let f : k < length g.bytes = leb-false (length g.bytes) k q in
      let t : p.base + p.size ≤ total files = tag_within files g.tag p.base p.size p.spot in
      let u : length g.bytes ≤ p.size = p.fits in
      rw (p.spot, add-zero p.base) (over_inside g.bytes a p.base k f (omega arith))

  pub length_all : (gs : List Grouped) (a : List ℕ) → length (laid_all files gs a) ≡ length a
  unfolding laid_all
  length_all [] a = refl
  length_all (g ∷ gs) a = length_all gs (laid (tag_spot files g.tag) 0 g.bytes a) ∙ length_laid
      (tag_spot files g.tag) g.bytes a

  kept_one : (g : Grouped) (area a : List ℕ) (p : Placed files g) → total files ≤ length area
      → ((k : ℕ) → k < p.size → get_or area (p.base + k) 0 ≡ get_or g.bytes k 0) → Kept files area g
  kept_one g area a p w h =
      let t : p.base + p.size ≤ total files = tag_within files g.tag p.base p.size p.spot in
      record {
        base = p.base;
        size = p.size;
        spot = p.spot;
        fits = p.fits;
        there = part_padded area p.base
            p.size g.bytes p.fits (omega arith) h;
      }

  -- every value is in its record
  pub kept_all : (gs : List Grouped) (a : List ℕ) → total files ≤ length a → Rising gs → Each (Placed files) gs
      → Each (Blank files a) gs
      → Each (Kept files (laid_all files gs a)) gs
  unfolding laid_all
  kept_all [] a w none Each.none Each.none = Each.none
  kept_all (g ∷ gs) a w (more t r) (Each.more p ps) (Each.more b bs) =
      let a₁ = laid (tag_spot files g.tag) 0 g.bytes a in
      let n : length a₁ ≡ length a = length_laid (tag_spot files g.tag) g.bytes a in
      let m : length (laid_all files gs a₁) ≡ length a₁ = length_all gs a₁ in
      Each.more
      (kept_one g (laid_all files gs a₁) a p (omega arith)
      (λ k l. outside_all files (p.base + k) gs a₁ ps
      (outside_later g gs p.base p.size k p.spot l t) ∙ laid_byte g a p w b k l
      (leb (length g.bytes) k) refl))
      (kept_all gs a₁ (omega arith) r ps (blank_later g gs a p t bs))
