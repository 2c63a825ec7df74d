-- The units of an order: a header lies within, and the turns that a definition has left don't matter.
use Prim.Native.Nat.{ℕ, zero, suc, ◌+◌, ◌≤◌, ◌<◌}
use mathlib.Core.Path.{◌≡◌, refl, sym, ap, ◌∙◌, subst}
use mathlib.Core.Bool.{false}
use mathlib.Core.List.{List, [], ◌∷◌, ◌++◌}
use native.Mathlib.Omega.{arith}
use lib.Dec.{eqb, ltb}
use lib.ListN.{length, drop, length-drop}
use borrow.Author.Tests.{ltb-false}
use Rattle.lists.specs.Bytes.{byte_at, word_at}
use Rattle.lists.specs.Choice.{by_cond}
use Rattle.model.specs.declared.Head.{Head}
use Rattle.model.specs.declared.Header.{Header}
use Rattle.model.specs.declared.Header.TheVariants.{Torn, Whole}
use Rattle.model.specs.Header.{long_form, header_of}
use Rattle.model.specs.Rows.{row_at, row_of, row_table}
use Rattle.model.specs.Order.{spannable, grouping_units, units_by, units_in}
use Rattle.model.proofs.Laws.{units_none}

-- a whole header takes at least 3 bytes, and those are there
abbrev pub Within : List ℕ → Header → Type 0
Within o Torn = Unit {0}
Within o (Whole h) = (3 ≤ h.size) × (h.size ≤ length o)

long_within : (o : List ℕ) → Within o (long_form o)
unfolding long_form
long_within o =
    by_cond (Within o) (ltb (length o) 5) (λ e. tt)
    (λ e. by_cond (Within o) (eqb (word_at o 3) 0xFFFF) (λ f. tt)
    (λ f. let g : 5 ≤ length o = ltb-false (length o) 5 e in omega arith))

pub header_within : (o : List ℕ) → Within o (header_of o)
unfolding header_of
header_within o =
    by_cond (Within o) (ltb (length o) 3) (λ e. tt)
    (λ e. by_cond (Within o) (eqb (byte_at o 2) 0xFF) (λ f. long_within o)
    (λ f. let g : 3 ≤ length o = ltb-false (length o) 3 e in omega arith))

pub whole_within : (o : List ℕ) (h : Head) → header_of o ≡ Whole h → (3 ≤ h.size) × (h.size ≤ length o)
whole_within o h e = subst (Within o) e (header_within o)

-- the units by a header differ only by those of what comes behind
units_later : (f g : ℕ) (o : List ℕ) (h : Header) → Within o h
    → ((r : List ℕ) → length r < length o → units_in f r ≡ units_in g r)
    → 0 < length o → units_by (λ r. units_in f r) h o ≡ units_by (λ r. units_in g r) h o
units_later f g o Torn w later p = refl
units_later f g o (Whole h) w later p =
    let n = h.size + h.len in
    ap (λ (us : List (List ℕ)). grouping_units h o ++ us) (later (drop n o) (rw length-drop (omega arith)))

-- enough turns are enough
pub units_enough : (f g : ℕ) (o : List ℕ) → length o ≤ f → length o ≤ g → units_in f o ≡ units_in g o
unfolding units_in
units_enough zero g [] p q = sym (units_none g)
units_enough (suc f) g [] p q = sym (units_none g)
units_enough zero g (b ∷ bs) p q = absurd (omega arith)
units_enough (suc f) zero (b ∷ bs) p q = absurd (omega arith)
units_enough (suc f) (suc g) (b ∷ bs) p q =
    units_later f g (b ∷ bs) (header_of (b ∷ bs)) (header_within (b ∷ bs))
    (λ r l. units_enough f g r (omega arith) (omega arith)) (omega arith)

-- the units of bytes that are there, by their header
pub units_at : (fuel : ℕ) (o : List ℕ) → 0 < length o → length o ≤ fuel
    → units_in fuel o ≡ units_by (λ r. units_in fuel r) (header_of o) o
unfolding units_in
units_at fuel [] p q = absurd (omega arith)
units_at zero (b ∷ bs) p q = absurd (omega arith)
units_at (suc f) (b ∷ bs) p q =
    units_later f (suc f) (b ∷ bs) (header_of (b ∷ bs)) (header_within (b ∷ bs))
    (λ r l. units_enough f (suc f) r (omega arith) (omega arith)) p

-- an unknown tag's value does not span
pub unknown_whole : (tag r : ℕ) → r ≡ row_of tag → r ≡ 0 → false ≡ spannable tag
unfolding row_at row_table
unknown_whole tag r e z = ap (λ (k : ℕ). (row_at k).spans) (sym z ∙ e)
