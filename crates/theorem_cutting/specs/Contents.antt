-- The file contents that an order gives: each 'ssnn' value in its record, with zeros behind it, and zeros wherever no
-- value goes.
use Rattle.std.specs.Prelude.{ℕ, zero, suc, ◌+◌, ◌≤◌, ◌≡◌, cond, List, [], ◌∷◌, eqb, length, drop}
use Rattle.lists.specs.Bytes.{byte_at, part, padded}
use Rattle.model.specs.declared.Descriptor.{Descriptor}
use Rattle.model.specs.declared.Header.{Header}
use Rattle.model.specs.declared.Header.TheVariants.{Torn, Whole}
use Rattle.model.specs.declared.Spot.TheVariants.{At}
use Rattle.model.specs.Stored.{area_size}
use Rattle.model.specs.Rows.{row_of}
use Rattle.model.specs.Header.{header_of}
use Rattle.model.specs.Rules.{tag_spot}

-- a grouping: its tag and its value
pub record Grouped : Type 0 where
  pub tag : ℕ
  pub bytes : List ℕ

-- the groupings of an order, end to end, as many turns as there are bytes
abbrev pub grouped_by : (List ℕ → List Grouped) → Header → List ℕ → List Grouped
grouped_by later Torn o = []
grouped_by later (Whole h) o = record { tag = h.tag; bytes = part o h.size h.len } ∷ later
    (drop (h.size + h.len) o)

unfoldable pub grouped_in : ℕ → List ℕ → List Grouped
grouped_in zero o = []
grouped_in (suc fuel) [] = []
grouped_in (suc fuel) (b ∷ bs) = grouped_by (λ o. grouped_in fuel o) (header_of (b ∷ bs)) (b ∷ bs)

-- those of row 11
unfoldable pub ssnn_of : List Grouped → List Grouped
ssnn_of [] = []
ssnn_of (g ∷ gs) = cond (eqb (row_of g.tag) 11) (g ∷ ssnn_of gs) (ssnn_of gs)

-- the 'ssnn' groupings of an order
unfoldable pub values_of : List ℕ → List Grouped
values_of order = ssnn_of (grouped_in (length order) order)

-- what every entry of a list has
pub data Each {A : Type 0} (P : A → Type 0) : List A → Type 0 where
  none : Each P []
  more : {x : A} {xs : List A} → P x → Each P xs → Each P (x ∷ xs)

-- an 'ssnn' value is in its record of the file area, and zeros fill the record
pub record Kept (files : List Descriptor) (area : List ℕ) (g : Grouped) : Type 0 where
  pub base : ℕ
  pub size : ℕ
  pub spot : tag_spot files g.tag ≡ At base size
  pub fits : length g.bytes ≤ size
  pub there : part area base size ≡ padded size g.bytes

-- index i is not in the record of a grouping
abbrev pub Outside : List Descriptor → ℕ → Grouped → Type 0
Outside files i g = (base size : ℕ) → tag_spot files g.tag ≡ At base size → base ≤ i → base + size ≤ i

-- the file area that groupings give, and all of it: each value in its record, and every byte outside those records zero
pub record Contents (files : List Descriptor) (gs : List Grouped) (area : List ℕ) : Type 0 where
  pub long : length area ≡ area_size
  pub values : Each (Kept files area) gs
  pub others : (i : ℕ) → Each (Outside files i) gs → byte_at area i ≡ 0
