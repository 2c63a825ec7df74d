-- INSTALL's data: its names and its tail, by the places where they stand.
use Prim.Native.Nat.{ℕ, ◌+◌, ◌-◌, ◌≤◌, ◌<◌}
use mathlib.Core.Path.{◌≡◌, ap, sym, ◌∙◌}
use mathlib.Core.Bool.{true, false, cond, ◌&&◌}
use mathlib.Core.List.{List, [], ◌∷◌}
use native.Mathlib.Omega.{arith}
use borrow.Author.Tests.{leb-true}
use lib.Dec.{leb, eqb}
use lib.ListN.{length, take, drop, length-take, length-drop}
use Rattle.lists.specs.Bytes.{byte_at, padded, same, same_length, same_eq}
use Rattle.model.specs.declared.Life.{Life}
use Rattle.model.specs.Events.{names_in, name_length, install_form, selectable_form}
use Rattle.life_names.specs.declared.Places.{Places}
use Rattle.life_names.specs.Places.{placed, places_in, named_as}
use Rattle.lists.specs.Truth.{and_l, and_r}

-- INSTALL's fixed tails
abbrev pub install_tail : List ℕ
install_tail = 0x01 ∷ 0x00 ∷ 0x02 ∷ 0xC9 ∷ 0x00 ∷ 0x00 ∷ []

abbrev pub selectable_tail : List ℕ
selectable_tail = 0x01 ∷ 0x00 ∷ 0x00 ∷ 0x00 ∷ []

-- from past the end there is no tail
pub no_tail : (d fixed : List ℕ) (at : ℕ) → length d < at → 1 ≤ length fixed → same (drop at d) fixed ≡ false
no_tail d fixed at h g = same_length (drop at d) fixed (λ e. omega (arith, length-drop at d, e))

-- a tail that is there begins within the data
tail_within : (d fixed : List ℕ) (at : ℕ) → 1 ≤ length fixed → same (drop at d) fixed ≡ true → at ≤ length d
tail_within d fixed at g e =
    omega (arith, length-drop at d, ap length (same_eq (drop at d) fixed e))

-- the places by the bytes read one after the other
pub placed_by : (d : List ℕ) {p m i : ℕ} → p ≡ byte_at d 0 → m ≡ byte_at d (1 + p) → i ≡ byte_at d (2 + p + m)
    → placed p m i ≡ places_in d
unfolding names_in
placed_by d e f g = rw (g, f, e)

-- both forms by the places
module _ (d : List ℕ) (p : Places) (e : p ≡ places_in d) where
  pub install_form_lem : install_form (names_in d)
      ≡ (name_length p.first && name_length p.second && name_length p.third && same
      (drop p.tail d) install_tail)
  unfolding install_form names_in
  install_form_lem = rw e

  pub selectable_form_lem : selectable_form (names_in d)
      ≡ (eqb p.first 0 && eqb p.second 0 && name_length p.third && same (drop p.tail d) selectable_tail)
  unfolding selectable_form names_in
  selectable_form_lem = rw e

  -- the bytes between the name's place and the tail's
  abbrev pub named : List ℕ
  named = take (p.tail - p.name) (drop p.name d)

  third_long : p.tail - p.name ≡ p.third
  third_long = rw e (omega arith)

  -- they are the name
  pub named_is : named ≡ (names_in d).name
  unfolding names_in
  named_is = rw (third_long, e)

  -- a form's name lies within the data, and is as long as a name may be
  pub install_ends : install_form (names_in d) ≡ true → p.tail ≤ length d
  install_ends t =
      let three = name_length p.first && name_length p.second && name_length p.third in
      let last = same (drop p.tail d) install_tail in
      tail_within d install_tail p.tail (omega arith) (and_r three last (sym install_form_lem ∙ t))

  pub install_fits : install_form (names_in d) ≡ true → length named ≤ 16
  install_fits t =
      let two = name_length p.first && name_length p.second in
      let n = name_length p.third in
      let f = and_r two n (and_l (two && n) (same (drop p.tail d) install_tail) (sym install_form_lem ∙ t)) in
      let h : p.third ≤ 16 = leb-true p.third 16 (and_r (leb 5 p.third) (leb p.third 16) f) in
      rw (length-take, third_long) (omega arith)

  pub selectable_ends : selectable_form (names_in d) ≡ true → p.tail ≤ length d
  selectable_ends t =
      let three = eqb p.first 0 && eqb p.second 0 && name_length p.third in
      let last = same (drop p.tail d) selectable_tail in
      tail_within d selectable_tail p.tail (omega arith) (and_r three last (sym selectable_form_lem ∙ t))

  -- the life with that name
  pub life_named : (f : Life) (p1 gp : ℕ) (name : List ℕ) → cond (eqb p1 0x04) 0x03 0x07 ≡ gp → name ≡ padded 16 named
      → record { gp = gp; selected = f.selected; name = name; namelen = p.third } ≡ named_as f p1 (names_in d)
  life_named f p1 gp name g h =
      let i : p.third ≡ (names_in d).instance_len = rw e in
      rw (g, h, named_is, i)
