-- The uncut walk of a complete order fills the files: every 'ssnn' value in its record, and zeros elsewhere.
use Prim.Native.Nat.{ℕ, zero, ◌+◌, ◌-◌, ◌/◌, ◌%◌, ◌≤◌, ◌<◌}
use mathlib.Core.Path.{◌≡◌, refl, sym, ap, ◌∙◌, subst}
use mathlib.Core.Bool.{Bool, true, false, cond, not, ◌||◌}
use mathlib.Core.List.{List, [], ◌∷◌, ◌++◌}
use native.Mathlib.Omega.{arith}
use native.Mathlib.Nat.{le_refl}
use lib.Dec.{eqb, ltb}
use lib.ListN.{length, take, drop, length-take}
use borrow.Author.Tests.{eqb-true, eq-eqb, ltb-true}
use Rattle.lists.specs.Bytes.{zeros}
use Rattle.model.specs.declared.Descriptor.{Descriptor}
use Rattle.model.specs.declared.Loading.{Loading}
use Rattle.model.specs.declared.Open.TheVariants.{Record}
use Rattle.model.specs.declared.Head.{Head}
use Rattle.model.specs.declared.Spot.TheVariants.{At}
use Rattle.model.specs.declared.Verdict.TheVariants.{Passes}
use Rattle.model.specs.Stored.{area_size}
use Rattle.model.specs.Rows.{row_table, row_at, row_of, taken, with_row, ready_for, none_from, rising, due}
use Rattle.model.specs.Loads.{State, file_list, with_internal, with_open, changed}
use Rattle.model.specs.Rules.{Result, went, asked, failed, tag_spot, laid, room_of, length_ok, record_done, record_bytes}
use Rattle.model.specs.Rules.{fed, spanned, rule_h}
use Rattle.theorem_cutting.specs.Job.{state_of}
use Rattle.theorem_cutting.specs.Contents.{Grouped, Each}
use Rattle.model.proofs.Laws.{length_most, room_spot_lem}
use Rattle.theorem_cutting.proofs.Laid.{laid_all, laid_last, Placed, Rising, none, each_last, rising_last}
use Rattle.lists.specs.Truth.{and_r}

-- the area holds the values of these groupings, and nothing else
pub record Filled (files : List Descriptor) (gs : List Grouped) (area : List ℕ) : Type 0 where
  pub is : area ≡ laid_all files gs (zeros area_size)
  pub up : Rising gs
  pub placed : Each (Placed files) gs

-- the 'ssnn' groupings that a walk has seen: none as long as row 11 is not taken; then their tags are at most the
-- last one
pub data Seen (s : State) : List Grouped → Type 0 where
  early : s.area ≡ zeros area_size → Seen s []
  late : {gs : List Grouped} → taken s.load.running.rows 11 ≡ true
      → Each (λ (g : Grouped). g.tag ≤ s.load.running.last) gs → Filled (file_list s.load) gs s.area
      → Seen s gs

filled_none : (files : List Descriptor) (a : List ℕ) → a ≡ zeros area_size → Filled files [] a
unfolding laid_all
filled_none files a e = record { is = e; up = none; placed = Each.none }

pub seen_filled : {s : State} {gs : List Grouped} → Seen s gs → Filled (file_list s.load) gs s.area
seen_filled {s} (early e) = filled_none (file_list s.load) s.area e
seen_filled (late t l f) = f

-- a row before 11 comes only early
pub due_none : (rows last row tag : ℕ) → eqb row 11 ≡ false → due rows last row tag ≡ true → none_from rows row ≡ true
unfolding due
due_none rows last row tag q d = subst (λ (x : Bool). cond x (rising rows last tag) (none_from rows row) ≡ true) q
    (and_r (ready_for rows row) _ d)

pub taken_high : (rows : ℕ) → taken rows 11 ≡ true → 1024 ≤ rows
unfolding taken
taken_high rows t = let f : rows / 1024 % 2 ≡ 1 = eqb-true (rows / 1024 % 2) 1 t in omega arith

-- and row 11 with a tag above the last, once it is taken
due_rising : (rows last tag : ℕ) → due rows last 11 tag ≡ true → taken rows 11 ≡ true → last < tag
unfolding due rising
due_rising rows last tag d t =
    ltb-true last tag (subst (λ (x : Bool). not x || ltb last tag ≡ true) t
    (and_r (ready_for rows 11) (rising rows last tag) d))

row_taken : (rows : ℕ) → taken (with_row rows 11) 11 ≡ true
unfolding with_row
row_taken rows = go (taken rows 11) refl
  where
    go : (x : Bool) → taken rows 11 ≡ x → taken (cond x rows (rows + 1024)) 11 ≡ true
    go true q = q
    go false q = unfold taken in eq-eqb ((rows + 1024) / 1024 % 2) 1
        (let f : rows / 1024 % 2 ≡ 1 → ⊥ = borrow.Author.Tests.eqb-false (rows / 1024 % 2) 1 (unfold taken in q) in
        omega (arith, f))

each_so : {P Q : Grouped → Type 0} {gs : List Grouped} → ((g : Grouped) → P g → Q g) → Each P gs → Each Q gs
each_so f Each.none = Each.none
each_so f (Each.more {x} p ps) = Each.more (f x p) (each_so f ps)

-- the tags seen are below that of a row 11 that is due
seen_under : {s : State} {gs : List Grouped} (tag : ℕ)
    → due s.load.running.rows s.load.running.last 11 tag ≡ true → Seen s gs
    → Each (λ (g : Grouped). g.tag < tag) gs
seen_under tag d (early e) = Each.none
seen_under {s} tag d (late t l f) =
    let k : s.load.running.last < tag = due_rising s.load.running.rows s.load.running.last tag d t in
    each_so (λ (g : Grouped) (p : g.tag ≤ s.load.running.last). omega arith) l

-- rule e found the record
record_room_lem : (files : List Descriptor) (row tag room : ℕ) → eqb row 11 ≡ true → room_of files row tag ≡ Passes room
    → (base : ℕ) × (tag_spot files tag ≡ At base room)
unfolding room_of
record_room_lem files row tag room q e = room_spot_lem (tag_spot files tag) room (rw q at e)

-- one more value
filled_more : (files : List Descriptor) (gs : List Grouped) (g : Grouped) (area : List ℕ) → Filled files gs area
    → Placed files g
    → Each (λ (h : Grouped). h.tag < g.tag) gs
    → Filled files (gs ++ (g ∷ [])) (laid (tag_spot files g.tag) 0 g.bytes area)
filled_more files gs g area f p u = record {
  is = ap (laid (tag_spot files g.tag) 0 g.bytes) f.is ∙ sym (laid_last files gs g (zeros area_size));
  up = rising_last gs g f.up u;
  placed = each_last f.placed p;
}

module _ (capacity : ℕ) (h : Head) (rest : List ℕ) (s : State) where
  abbrev pub g : Grouped
  g = record { tag = h.tag; bytes = take h.len rest }

  -- the state in which a record's bytes are taken
  abbrev pub begun : Loading
  begun = with_open (Record h.tag 0 h.len) s.load.held (with_internal 0x5A s.load)

  abbrev pub after : ℕ → State
  after k = record_done h.tag (0 + length (take h.len rest)) k
      (record { load = begun; area = laid (tag_spot (file_list s.load) h.tag) 0 (take h.len rest) s.area })

  -- what rule h leaves of row 11
  record_h : (row : ℕ) → row ≡ 11 → rule_h capacity row h rest (changed (with_internal 0x5A) s)
      ≡ went (drop h.len rest) (after (h.len - length (take h.len rest)))
  unfolding rule_h row_at row_table spanned fed record_bytes
  record_h row e = subst (λ (r : ℕ). rule_h capacity r h rest (changed (with_internal 0x5A) s)
      ≡ went (drop h.len rest) (after (h.len - length (take h.len rest)))) (sym e) refl

  pub record_passed : (left : List ℕ) (s₁ : State) → eqb (row_of h.tag) 11 ≡ true
      → rule_h capacity (row_of h.tag) h rest (changed (with_internal 0x5A) s) ≡ went left s₁
      → (drop h.len rest ≡ left) × (after (h.len - length (take h.len rest)) ≡ s₁)
  record_passed left s₁ q e =
      let f : went (drop h.len rest) (after (h.len - length (take h.len rest))) ≡ went left s₁ =
      sym (record_h (row_of h.tag) (eqb-true (row_of h.tag) 11 q)) ∙ e in
      (ap left_of f, ap state_of f)
    where
      left_of : Result (List ℕ) → List ℕ
      left_of (went l t) = l
      left_of (asked n t) = []
      left_of (failed n t) = []

  -- a whole value has been seen
  pub seen_more : {gs : List Grouped} (room : ℕ) → eqb (row_of h.tag) 11 ≡ true
      → due s.load.running.rows s.load.running.last (row_of h.tag) h.tag ≡ true
      → room_of (file_list s.load) (row_of h.tag) h.tag ≡ Passes room
      → length_ok (row_of h.tag) room h.len ≡ true
      → Seen s gs → Seen (after zero) (gs ++ (g ∷ []))
  unfolding record_done
  seen_more {gs} room q d r o sn =
      let row : row_of h.tag ≡ 11 = eqb-true (row_of h.tag) 11 q in
      let at : (base : ℕ) × (tag_spot (file_list s.load) h.tag ≡ At base room) =
      record_room_lem (file_list s.load) (row_of h.tag) h.tag room q r in
      let u : Each (λ (x : Grouped). x.tag < h.tag) gs =
      seen_under h.tag
      (subst (λ (i : ℕ). due s.load.running.rows s.load.running.last i h.tag ≡ true) row d) sn in
      let l : h.len ≤ room = length_most (row_of h.tag) room h.len o in
      let n : length (take h.len rest) ≡ Prim.Native.Nat.min h.len (length rest) = length-take h.len rest in
      let fit : length (take h.len rest) ≤ room = omega arith in
      late (row_taken s.load.running.rows)
      (each_last (each_so (λ (x : Grouped) (p : x.tag < h.tag). omega arith) u) (le_refl h.tag))
      (filled_more (file_list s.load) gs g s.area (seen_filled sn)
      (record { base = at.0; size = room; spot = at.1; fits = fit }) u)
