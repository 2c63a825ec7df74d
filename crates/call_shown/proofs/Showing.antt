-- A stored record shown, by the tests.
use Prim.Native.Nat.{ℕ}
use mathlib.Core.Path.{◌≡◌}
use mathlib.Core.Bool.{true, false}
use mathlib.Core.List.{List}
use lib.ListN.{length}
use borrow.Author.Tests.{eq-eqb, ne_eqb}
use Rattle.model.specs.declared.Card.{Card}
use Rattle.model.specs.declared.Spot.{Spot}
use Rattle.model.specs.Stored.{area_size}
use Rattle.model.specs.Table.{spot_of}
use Rattle.model.specs.Loads.{file_list}
use Rattle.model.specs.Sound.{sound}
use Rattle.model.specs.Session.{unshown, shown_at, shown_of}

module _ (c : Card) (a : List ℕ) (sfi nn : ℕ) where
  pub shown_1 : (length a ≡ area_size → ⊥) → unshown 1 ≡ shown_of c a sfi nn
  unfolding shown_of
  shown_1 h = rw (ne_eqb _ _ h)

  pub shown_6 : length a ≡ area_size → sound c ≡ false → unshown 6 ≡ shown_of c a sfi nn
  unfolding shown_of
  shown_6 e h = rw (eq-eqb _ _ e, h)

  -- past both, what is at the record's place
  pub spot_shown : (x : Spot) → length a ≡ area_size → sound c ≡ true → spot_of (file_list c.loading) sfi nn ≡ x
      → shown_at x ≡ shown_of c a sfi nn
  unfolding shown_of
  spot_shown x e h p = rw (eq-eqb _ _ e, h, p)
