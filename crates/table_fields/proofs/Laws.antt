-- The table's definitions, descriptor by descriptor.
use Prim.Native.Nat.{ℕ, zero, suc, ◌+◌, ◌-◌, ◌*◌, ◌≤◌, ◌<◌}
use mathlib.Core.Path.{◌≡◌, refl, sym, ◌∙◌}
use mathlib.Core.Bool.{Bool, true, false, cond, ◌||◌}
use mathlib.Core.List.{List, [], ◌∷◌}
use native.Mathlib.Nat.{mul-le-mul, add-zero, add-suc}
use native.Mathlib.Numerals.{add-one}
use native.Mathlib.Omega.{arith}
use borrow.Author.Tests.{eq-eqb, ne_eqb}
use lib.Dec.{eqb}
use lib.ListN.{length, get_or, take, drop}
use Rattle.lists.specs.Rest.{rest_cons, rest_none}
use Rattle.model.specs.declared.Descriptor.{Descriptor}
use Rattle.model.specs.declared.Spot.{Spot}
use Rattle.model.specs.declared.Spot.TheVariants.{Nowhere}
use Rattle.model.specs.Stored.{no_file}
use Rattle.model.specs.Table.{clash, clashes, counter_in, counter_among, size_of, total, spot_in, spot_from, passed}
use Rattle.model.specs.Table.{admit_of, table_passes}

-- what the language reads past an array's end (never read): no bytes stand in its lists
abbrev pub past_end : Descriptor
past_end = record {
  lid = 0;
  sfi = 0;
  filetype = 0;
  eftype = 0;
  recsize = 0;
  numrec = 0;
  ac = [];
  nkey = [];
  refsfi =
      0;
  refnum = 0;
  status = 0;
}

-- the product of two bytes
pub bytes_product : {a b : ℕ} → a < 256 → b < 256 → a * b ≤ 65025
bytes_product {a} {b} ha hb =
    let p : a ≤ 255 = omega arith in
    let q : b ≤ 255 = omega arith in
    mul-le-mul p q

-- within the list, what would be read past its end does not matter
pub get_d_any : {A : Type 0} (l : List A) (i : ℕ) (z w : A) → i < length l → get_or l i z ≡ get_or l i w
get_d_any [] i z w h = absurd (omega arith)
get_d_any (x ∷ xs) zero z w h = refl
get_d_any (x ∷ xs) (suc i) z w h = get_d_any xs i z w (omega arith)

-- What is left of the first n of a list from i on: its first descriptor, and the others.
module _ (l : List Descriptor) (n : ℕ) (fits : n ≤ length l) (i : ℕ) where
  pub clashes_step : (d : Descriptor) → i < n → clashes d (drop i (take n l))
      ≡ (clash d (get_or l i past_end) || clashes d (drop (i + 1) (take n l)))
  unfolding clashes
  clashes_step d h = rw (rest_cons l n fits i past_end h)

  pub clashes_end : (d : Descriptor) → n ≤ i → clashes d (drop i (take n l)) ≡ false
  unfolding clashes
  clashes_end d h = rw (rest_none l n fits i h)

  pub counter_step : (d : Descriptor) → i < n
      → counter_among d (drop i (take n l)) ≡ (counter_in d (get_or l i past_end) || counter_among d
      (drop (i + 1) (take n l)))
  unfolding counter_among
  counter_step d h = rw (rest_cons l n fits i past_end h)

  pub counter_end : (d : Descriptor) → n ≤ i → counter_among d (drop i (take n l)) ≡ false
  unfolding counter_among
  counter_end d h = rw (rest_none l n fits i h)

  total_step : i < n → total (drop i (take n l)) ≡ size_of (get_or l i past_end) + total (drop (i + 1) (take n l))
  unfolding total
  total_step h = rw (rest_cons l n fits i past_end h)

  -- a turn of the loop that sums
  pub total_more : (sum size : ℕ) → i < n → size ≡ size_of (get_or l i past_end)
      → total (take n l) ≡ sum + total (drop i (take n l))
      → total (take n l) ≡ sum + size + total (drop (i + 1) (take n l))
  total_more sum size h e inv = omega (arith, total_step h)

  pub total_end : n ≤ i → total (drop i (take n l)) ≡ 0
  unfolding total
  total_end h = rw (rest_none l n fits i h)

  spot_step : (base sfi nn : ℕ) → i < n
      → spot_from (drop i (take n l)) base sfi nn
      ≡ cond (eqb (get_or l i past_end).sfi sfi) (spot_in (get_or l i past_end) base nn)
      (spot_from (drop (i + 1) (take n l)) (base + size_of (get_or l i past_end)) sfi nn)
  unfolding spot_from
  spot_step base sfi nn h = rw (rest_cons l n fits i past_end h)

  -- a turn of the loop that looks for an SFI
  pub spot_more : {s : Spot} (base sfi nn size : ℕ) → i < n → size ≡ size_of (get_or l i past_end)
      → ((get_or l i past_end).sfi ≡ sfi → ⊥)
      → s ≡ spot_from (drop i (take n l)) base sfi nn → s ≡ spot_from (drop (i + 1) (take n l)) (base + size) sfi nn
  spot_more base sfi nn size h e other inv = inv ∙ spot_step base sfi nn h ∙ rw (ne_eqb _ _ other, e)

  pub spot_found : {s r : Spot} (base sfi nn : ℕ) → i < n → (get_or l i past_end).sfi ≡ sfi
      → r ≡ spot_in (get_or l i past_end) base nn
      → s ≡ spot_from (drop i (take n l)) base sfi nn → r ≡ s
  spot_found base sfi nn h found e inv = e ∙ sym (inv ∙ spot_step base sfi nn h ∙ rw (eq-eqb _ _ found))

  pub spot_end : (base sfi nn : ℕ) → n ≤ i → spot_from (drop i (take n l)) base sfi nn ≡ Nowhere
  unfolding spot_from
  spot_end base sfi nn h = rw (rest_none l n fits i h)

-- a table that fails does not pass by more descriptors
never_later : (l : List Descriptor) (i k : ℕ) → table_passes l i ≡ false → table_passes l (i + k) ≡ false
unfolding table_passes
never_later l i zero e = rw add-zero e
never_later l i (suc k) e = rw (add-suc, never_later l i k e)

-- A descriptor judged after the i before it.
module _ (l : List Descriptor) (i : ℕ) (fits : i < length l) (all : table_passes l i ≡ true) where
  passes_step : table_passes l (i + 1) ≡ passed (admit_of (get_or l i past_end) (take i l))
  unfolding table_passes
  passes_step = rw (add-one, all, get_d_any l i no_file past_end fits)

  -- it passes
  pub passes_more : {r : Bool} → r ≡ passed (admit_of (get_or l i past_end) (take i l)) → r ≡ true
      → table_passes l (i + 1) ≡ true
  passes_more e good = passes_step ∙ sym e ∙ good

  -- it does not
  pub passes_never : {r : Bool} (n : ℕ) → i < n → r ≡ passed (admit_of (get_or l i past_end) (take i l)) → r ≡ false
      → table_passes l n ≡ false
  passes_never n h e bad =
      let p : n ≡ i + 1 + (n - (i + 1)) = omega arith in
      rw p (never_later l (i + 1) (n - (i + 1)) (passes_step ∙ sym e ∙ bad))
