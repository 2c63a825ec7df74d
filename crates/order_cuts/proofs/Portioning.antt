-- A step of the cutter, over the definition: what it takes goes into the command, and where it takes nothing the
-- command closes.
use Prim.Native.Nat.{ℕ, zero, suc, ◌+◌, ◌-◌, ◌≤◌, ◌<◌, min}
use mathlib.Core.Path.{◌≡◌, refl, sym, ap, ◌∙◌}
use mathlib.Core.Bool.{Bool, true, false, cond}
use mathlib.Core.List.{List, [], ◌∷◌, ◌++◌}
use native.Mathlib.Omega.{arith}
use lib.Dec.{ltb, leb}
use lib.ListN.{length, take, drop, length-take, length-drop}
use lib.Seq.{drop-drop, take-length, drop-length, take-take, take-nil, length-take-le}
use borrow.Author.Tests.{leb-true, leb-false, ltb-true, ltb-false, lt-ltb, le-ltb}
use Rattle.lists.specs.Bytes.{part}
use Rattle.lists.specs.Choice.{by_cond}
use Rattle.lists.specs.Least.{take_least, drop_least}
use Rattle.model.specs.declared.Head.{Head}
use Rattle.model.specs.declared.Header.{Header}
use Rattle.model.specs.declared.Header.TheVariants.{Torn, Whole}
use Rattle.model.specs.Stored.{data_room}
use Rattle.model.specs.Header.{header_of}
use Rattle.model.specs.Order.{spannable, single, units_by, units_in, packed}
use Rattle.order_cuts.specs.declared.Portion.{Portion}
use Rattle.order_cuts.specs.Portions.{unit_portion, grouping_portion, head_portion, inside_portion, portion_of}
use Rattle.order_cuts.specs.Cuts.{Fitting, units_of}
use Rattle.header.proofs.Units.{Within, header_within, units_at}
use Rattle.model.proofs.Laws.{units_none}
use Rattle.order_cuts.proofs.Packing.{packed_fits, packed_closes, packed_single, fitting_head, fitting_tail}
use Rattle.order_cuts.proofs.Packing.{fitting_single}

-- the command closes here: it has something, and the next one begins with the next unit
pub record Closes (cur : List ℕ) (us : List (List ℕ)) : Type 0 where
  pub begun : 0 < length cur
  pub cut : packed cur us ≡ cur ∷ packed [] us

-- the command takes so many bytes more, in its room, and goes on with the units behind them
pub record Takes (fuel : ℕ) (cur rest : List ℕ) (us : List (List ℕ)) (s : Portion) : Type 0 where
  pub room : length cur + s.taken ≤ data_room
  pub there : s.taken ≤ length rest
  pub goes : packed cur us ≡ packed (cur ++ take s.taken rest) (units_of fuel s.inside (drop s.taken rest))
  pub fitting : Fitting (units_of fuel s.inside (drop s.taken rest))

abbrev pub Stepped : ℕ → List ℕ → List ℕ → List (List ℕ) → Portion → Type 0
Stepped fuel cur rest us s = (s.taken ≡ 0 → Closes cur us) × (0 < s.taken → Takes fuel cur rest us s)

-- a unit of the order, which is not empty
unit_stepped : (fuel : ℕ) (cur rest u : List ℕ) (us : List (List ℕ)) (n room inside : ℕ)
    → length cur + room ≡ data_room → 0 < n → n ≤ length rest → take n rest ≡ u
    → units_of fuel inside (drop n rest) ≡ us → Fitting (u ∷ us)
    → Stepped fuel cur rest (u ∷ us) (unit_portion n room inside)
unfolding unit_portion
unit_stepped fuel cur rest u us n room inside r p l e g f =
    let size : length u ≡ n = ap length (sym e) ∙ length-take-le n rest l in
    by_cond (Stepped fuel cur rest (u ∷ us)) (leb n room)
    (λ t.
    let fits : n ≤ room = leb-true n room t in (
      (λ z. absurd (omega arith)),
      (λ q. record {
        room = omega arith;
        there = l;
        goes = packed_fits cur u us (omega arith) ∙ rw (e, g);
        fitting = rw g (fitting_tail f);
      }),
    ))
    (λ t.
    let over : room < n = leb-false n room t in
    let most : length u ≤ data_room = fitting_head f in (
      (λ z. record { begun = omega arith; cut = packed_closes cur u us (omega arith) most }),
      (λ q. absurd (omega arith)),
    ))

-- no bytes of a value to come: the units are those of the bytes
units_of_none : (fuel : ℕ) (rest : List ℕ) → units_of fuel 0 rest ≡ units_in fuel rest
unfolding single
units_of_none fuel rest = refl

module _ (fuel : ℕ) (cur rest : List ℕ) (room : ℕ) (r : length cur + room ≡ data_room) (p : 0 < length rest) where
  torn_stepped : Fitting (rest ∷ []) → Stepped fuel cur rest (rest ∷ []) (unit_portion (length rest) room 0)
  torn_stepped f =
      unit_stepped fuel cur rest rest [] (length rest) room 0 r p (omega arith) (take-length rest)
      (units_of_none fuel (drop (length rest) rest) ∙ rw drop-length (units_none fuel)) f

  module _ (h : Head) (w : Within rest (Whole h)) where
    abbrev behind : List (List ℕ)
    behind = units_in fuel (drop (h.size + h.len) rest)

    -- the header of a value that spans
    spans_stepped : Fitting (take h.size rest ∷ (single (part rest h.size h.len) ++ behind))
        → Stepped fuel cur rest (take h.size rest ∷ (single (part rest h.size h.len) ++ behind))
        (unit_portion h.size room h.len)
    spans_stepped f =
        unit_stepped fuel cur rest (take h.size rest) (single (part rest h.size h.len) ++ behind)
        h.size room h.len r
        (omega arith) w.1 refl (rw (drop-drop h.len h.size rest)) f

    -- a whole unspannable grouping, as far as it goes
    abbrev whole_size : ℕ
    whole_size = h.size + min h.len (length rest - h.size)

    whole_stepped : Fitting (take (h.size + h.len) rest ∷ behind)
        → Stepped fuel cur rest (take (h.size + h.len) rest ∷ behind) (unit_portion whole_size room 0)
    whole_stepped f =
        let e : whole_size ≡ min (h.size + h.len) (length rest) = omega arith in
        unit_stepped fuel cur rest (take (h.size + h.len) rest) behind whole_size room 0 r
        (omega arith) (omega arith) (rw e (take_least (h.size + h.len) rest))
        (units_of_none fuel (drop whole_size rest) ∙ rw e
        (ap (λ (l : List ℕ). units_in fuel l) (drop_least (h.size + h.len) rest))) f

    grouping_stepped : (b : Bool)
        → Fitting (cond b (take h.size rest ∷ single (part rest h.size h.len))
        (take (h.size + h.len) rest ∷ []) ++ behind)
        → Stepped fuel cur rest
        (cond b (take h.size rest ∷ single (part rest h.size h.len))
        (take (h.size + h.len) rest ∷ []) ++ behind)
        (cond b (unit_portion h.size room h.len) (unit_portion whole_size room 0))
    grouping_stepped true f = spans_stepped f
    grouping_stepped false f = whole_stepped f

  head_stepped : (h : Header) → Within rest h → Fitting (units_by (λ o. units_in fuel o) h rest)
      → Stepped fuel cur rest (units_by (λ o. units_in fuel o) h rest) (head_portion h (length rest) room)
  unfolding grouping_portion
  head_stepped Torn w f = torn_stepped f
  head_stepped (Whole h) w f = grouping_stepped h w (spannable h.tag) f

  -- where no value is to come
  first_stepped : length rest ≤ fuel → Fitting (units_of fuel 0 rest)
      → Stepped fuel cur rest (units_of fuel 0 rest) (head_portion (header_of rest) (length rest) room)
  first_stepped l =
      rw (units_of_none fuel rest, units_at fuel rest p l) (head_stepped (header_of rest) (header_within rest))

-- what is behind k bytes of the first n
pub drop_take : (k n : ℕ) (l : List ℕ) → drop k (take n l) ≡ take (n - k) (drop k l)
drop_take zero n l = let e : n - 0 ≡ n = omega arith in rw e
drop_take (suc k) zero l = let e : 0 - suc k ≡ 0 = omega arith in rw e
drop_take (suc k) (suc n) [] = sym (take-nil (suc n - suc k))
drop_take (suc k) (suc n) (x ∷ l) = let e : suc n - suc k ≡ n - k = omega arith in rw e (drop_take k n l)

-- k of the bytes of a value that are to come
units_behind : (fuel k inside : ℕ) (rest : List ℕ) → k ≤ inside
    → single (drop k (take inside rest)) ++ units_in fuel (drop inside rest) ≡ units_of fuel (inside - k) (drop k rest)
units_behind fuel k inside rest l =
    let e : k + (inside - k) ≡ inside = omega arith in
    rw (drop_take k inside rest, drop-drop (inside - k) k rest, e)

module _ (fuel : ℕ) (cur rest : List ℕ) (inside room : ℕ) (r : length cur + room ≡ data_room) (p : 0 < length rest)
    (i : 0 < inside) where
  -- a full command closes before the next byte
  full_closes : (inside' : ℕ) (rest' : List ℕ) → 0 < length rest' → 0 < inside' → length cur ≡ data_room
      → Closes cur (units_of fuel inside' rest')
  unfolding single
  full_closes inside' [] a b e = absurd (omega arith)
  full_closes zero (x ∷ xs) a b e = absurd (omega arith)
  full_closes (suc m) (x ∷ xs) a b e =
      record { begun = omega arith; cut = packed_closes cur (x ∷ []) (units_of fuel m xs) (omega arith) (omega arith) }

  inside_takes : (k : ℕ) → k ≤ inside → k ≤ room → k ≤ length rest → Fitting (units_of fuel inside rest)
      → Takes fuel cur rest (units_of fuel inside rest) (record { taken = k; inside = inside - k })
  inside_takes k a b c f =
      let later = units_in fuel (drop inside rest) in
      record {
        room = omega arith;
        there = c;
        goes =
            packed_single k cur (take inside rest) later (rw length-take (omega arith)) (omega arith)
            ∙ rw (take-take k inside rest a, units_behind fuel k inside rest a);
        fitting = rw (units_behind fuel k inside rest a) at (fitting_single k (take inside rest) later f);
      }

  inside_stepped : Fitting (units_of fuel inside rest)
      → Stepped fuel cur rest (units_of fuel inside rest) (inside_portion inside (length rest) room)
  inside_stepped f = (
    (λ z. full_closes inside rest p i (omega arith)),
    (λ q. inside_takes (min (min inside room) (length rest)) (omega arith) (omega arith) (omega arith) f),
  )

-- a step of the cutter
pub step_stepped : (fuel : ℕ) (cur rest : List ℕ) (inside room : ℕ) → length cur + room ≡ data_room → 0 < length rest
    → length rest ≤ fuel
    → Fitting (units_of fuel inside rest) → Stepped fuel cur rest (units_of fuel inside rest)
    (portion_of rest inside room)
unfolding portion_of
step_stepped fuel cur rest inside room r p l f =
    by_cond (Stepped fuel cur rest (units_of fuel inside rest)) (ltb 0 inside)
    (λ t. inside_stepped fuel cur rest inside room r p (ltb-true 0 inside t) f)
    (λ t. let e : inside ≡ 0 = let g : inside ≤ 0 = ltb-false 0 inside t in omega arith in
    rw e (first_stepped fuel cur rest room r p l (rw e at f)))

-- a step by its place in the whole order
module _ (order : List ℕ) (at inside room : ℕ) where
  pub step_inside : 0 < inside → portion_of (drop at order) inside room ≡ inside_portion inside (length order - at) room
  unfolding portion_of
  step_inside h = rw (lt-ltb 0 inside h, length-drop)

  pub step_head : inside ≤ 0 → (h : Header) → header_of (drop at order) ≡ h
      → portion_of (drop at order) inside room ≡ head_portion h (length order - at) room
  unfolding portion_of
  step_head n h e = rw (le-ltb 0 inside n, e, length-drop)
