-- The writer's cut: none of the order's bytes is lost or doubled, and a command closes only where the next unit does
-- not fit.
use Prim.Native.Nat.{ℕ, zero, suc, ◌+◌, ◌*◌, ◌≤◌}
use mathlib.Core.Path.{◌≡◌, refl, sym, ap, ◌∙◌}
use mathlib.Core.Bool.{Bool, true, false, cond}
use mathlib.Core.List.{List, [], ◌∷◌, ◌++◌, append-nil, append_assoc}
use native.Mathlib.Omega.{arith}
use native.Mathlib.Nat.{le_refl}
use lib.Dec.{leb}
use lib.ListN.{length, take, drop, length-append, length-drop, take-append-drop}
use lib.Seq.{take-add}
use borrow.Author.Tests.{leb-false}
use Rattle.lists.specs.Joined.{joined}
use Rattle.model.specs.declared.Head.{Head}
use Rattle.model.specs.declared.Header.{Header}
use Rattle.model.specs.declared.Header.TheVariants.{Torn, Whole}
use Rattle.model.specs.Stored.{data_room}
use Rattle.model.specs.Header.{header_of}
use Rattle.model.specs.Order.{spannable, single, grouping_units, units_by, units_in, packed, cut_of}
use Rattle.theorem_cutting.specs.Packs.{Packs, last, next, longest_unit, Sized, more}
use Rattle.theorem_cutting.proofs.Heads.{Long, header_long}

pub joined_append : (us vs : List (List ℕ)) → joined (us ++ vs) ≡ joined us ++ joined vs
unfolding joined
joined_append [] vs = refl
joined_append (u ∷ us) vs = rw (joined_append us vs, append_assoc)

joined_single : (v : List ℕ) → joined (single v) ≡ v
unfolding joined single
joined_single [] = refl
joined_single (b ∷ bs) = ap (λ (l : List ℕ). b ∷ l) (joined_single bs)

joined_one : (u : List ℕ) → joined (u ∷ []) ≡ u
unfolding joined
joined_one u = append-nil u

joined_more : (u : List ℕ) (us : List (List ℕ)) → joined (u ∷ us) ≡ u ++ joined us
unfolding joined
joined_more u us = refl

-- the units of an order are its bytes
units_grouping : (h : Head) (o : List ℕ) → joined (grouping_units h o) ≡ take (h.size + h.len) o
units_grouping h o = go (spannable h.tag)
  where
    go : (x : Bool) → joined (cond x (take h.size o ∷ single (take h.len (drop h.size o)))
        (take (h.size + h.len) o ∷ [])) ≡ take (h.size + h.len) o
    go true = joined_more (take h.size o) _ ∙ rw joined_single (sym (take-add h.size h.len o))
    go false = joined_one (take (h.size + h.len) o)

units_joined : (fuel : ℕ) (o : List ℕ) → length o ≤ fuel → joined (units_in fuel o) ≡ o
unfolding units_in
units_joined zero [] h = unfold joined in refl
units_joined zero (b ∷ bs) h = absurd (omega arith)
units_joined (suc fuel) [] h = unfold joined in refl
units_joined (suc fuel) (b ∷ bs) h = by_header (header_of (b ∷ bs)) refl (λ left l. units_joined fuel left l)
  where
    by_header : (x : Header) → header_of (b ∷ bs) ≡ x
        → ((left : List ℕ) → length left ≤ fuel → joined (units_in fuel left) ≡ left)
        → joined (units_by (λ o. units_in fuel o) x (b ∷ bs)) ≡ b ∷ bs
    by_header Torn q ih = joined_one (b ∷ bs)
    by_header (Whole g) q ih =
        let l : Long (b ∷ bs) g = header_long (b ∷ bs) g q in
        joined_append (grouping_units g (b ∷ bs)) (units_in fuel (drop (g.size + g.len) (b ∷ bs)))
        ∙ rw (
          units_grouping g (b ∷ bs),
          ih (drop (g.size + g.len) (b ∷ bs))
              (rw (length-drop (g.size + g.len) (b ∷ bs)) (omega arith)),
        )
        (take-append-drop (g.size + g.len) (b ∷ bs))

pub units_whole : (order : List ℕ) → joined (units_in (length order) order) ≡ order
units_whole order = units_joined (length order) order (le_refl (length order))

-- a command closes only where the next unit does not fit
pub packs_from : (us : List (List ℕ)) (cur : List ℕ) (vs : List (List ℕ)) → cur ≡ joined vs
    → Packs (vs ++ us) (packed cur us)
unfolding packed
packs_from [] cur vs e = last (vs ++ []) cur (e ∙ sym (ap joined (append-nil vs)))
packs_from (u ∷ us) cur vs e =
    by_room (leb (length cur + length u) data_room) refl
    (packs_from us (cur ++ u) (vs ++ (u ∷ [])) (rw (e, joined_append vs (u ∷ []), joined_one u)))
    (packs_from us u (u ∷ []) (sym (joined_one u)))
  where
    by_room : (x : Bool) → leb (length cur + length u) data_room ≡ x
        → Packs ((vs ++ (u ∷ [])) ++ us) (packed (cur ++ u) us) → Packs (u ∷ us) (packed u us)
        → Packs (vs ++ (u ∷ us)) (elim x [ true ↦ packed (cur ++ u) us | false ↦ cur ∷ packed u us ])
    by_room true q f g = rw append_assoc at f
    by_room false q f g = next vs cur u us (packed u us) e (leb-false (length cur + length u) data_room q) g

pub cut_packs : (order : List ℕ) → Packs (units_in (length order) order) (cut_of order)
unfolding cut_of
cut_packs order = packs_from (units_in (length order) order) [] [] (unfold joined in refl)

-- what a cut holds, joined, is the units joined
packs_joined : {us cs : List (List ℕ)} → Packs us cs → joined cs ≡ joined us
packs_joined (last us c e) = joined_one c ∙ e
packs_joined (next us c u vs cs e l p) = joined_more c cs ∙ rw (e, packs_joined p) (sym (joined_append us (u ∷ vs)))

-- THE CUT IS THE ORDER, for every order
pub cut_whole : (order : List ℕ) → joined (cut_of order) ≡ order
cut_whole order = packs_joined (cut_packs order) ∙ units_whole order

-- commands but the last have at least 187 bytes, where no unit has more than 69
sized_behind : (us ws : List (List ℕ)) → Sized 1 longest_unit (us ++ ws) → Sized 1 longest_unit ws
sized_behind [] ws h = h
sized_behind (u ∷ us) ws (more l m h) = sized_behind us ws h

first_most : (u : List ℕ) (us : List (List ℕ)) → Sized 1 longest_unit (u ∷ us) → length u ≤ longest_unit
first_most u us (more l m h) = m

packs_few : {us cs : List (List ℕ)} → Packs us cs → Sized 1 longest_unit us
    → length cs * 187 ≤ length (joined cs) + 187
packs_few (last us c e) h = omega arith
packs_few (next us c u vs cs e l p) h =
    let k : Sized 1 longest_unit (u ∷ vs) = sized_behind us (u ∷ vs) h in
    let m : length u ≤ longest_unit = first_most u vs k in
    let f : length cs * 187 ≤ length (joined cs) + 187 = packs_few p k in
    rw (joined_more c cs, length-append c (joined cs)) (omega arith)

-- 8,192 bytes in units of at most 69 are 44 commands at most
pub few_commands : (order : List ℕ) → Sized 1 longest_unit (units_in (length order) order) → length order ≤ 8192
    → length (cut_of order) ≤ 44
few_commands order h l =
    let f : length (cut_of order) * 187 ≤ length (joined (cut_of order)) + 187 = packs_few (cut_packs order) h in
    let g : length (joined (cut_of order)) ≡ length order = ap length (cut_whole order) in
    omega arith
