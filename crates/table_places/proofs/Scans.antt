-- A search for a record's place: how it begins, goes on and ends.
use Prim.Native.Nat.{ℕ, ◌+◌, ◌≤◌, ◌<◌}
use mathlib.Core.Path.{◌≡◌, refl, ap, sym, ◌∙◌}
use mathlib.Core.Bool.{Bool, true, false}
use mathlib.Core.List.{List}
use native.Mathlib.Nat.{le_refl}
use native.Mathlib.Omega.{arith}
use lib.Dec.{eqb}
use lib.ListN.{length, get_or, take, drop}
use Rattle.model.specs.declared.Descriptor.{Descriptor}
use Rattle.model.specs.declared.Spot.{Spot}
use Rattle.model.specs.declared.Spot.TheVariants.{Nowhere, At}
use Rattle.model.specs.Table.{size_of, spot_in, spot_from, spot_of}
use Rattle.table_fields.proofs.Laws.{past_end, spot_found, spot_more, spot_end}
use Rattle.table_places.specs.Scans.{scan_from, or_else, Scanning}

else_none : (x : Spot) → or_else x Nowhere ≡ x
else_none Nowhere = refl
else_none (At base size) = refl

module _ (files : List Descriptor) (count : ℕ) (fits : count ≤ length files) (sfi nn : ℕ) where
  pub scan_begins : Scanning files count sfi nn Nowhere 0 (scan_from sfi count)
  unfolding spot_of
  scan_begins = go (eqb sfi 0) refl
    where
      go : (b : Bool) → eqb sfi 0 ≡ b → Scanning files count sfi nn Nowhere 0 (scan_from sfi count)
      go true e = rw e (record {
        within = le_refl count;
        below = omega arith;
        unfound = λ h. refl;
        same = rw e (sym (spot_end files count fits count 0 sfi nn (le_refl count)));
      })
      go false e = rw e (record { within = omega arith; below = omega arith; unfound = λ h. refl; same = rw e })

  module _ (spot : Spot) (base j : ℕ) (k : Scanning files count sfi nn spot base j) where
    pub scan_ends : count ≤ j → spot ≡ spot_of (take count files) sfi nn
    scan_ends h =
        sym (k.same ∙ ap (or_else spot) (spot_end files count fits j base sfi nn h) ∙ else_none spot)

    module _ (h : j < count) where
      so_far : spot_of (take count files) sfi nn ≡ spot_from (drop j (take count files)) base sfi nn
      so_far = k.same ∙ rw (k.unfound h)

      pub scan_more : (size : ℕ) → size ≡ size_of (get_or files j past_end) → size ≤ 65535
          → ((get_or files j past_end).sfi ≡ sfi → ⊥)
          → Scanning files count sfi nn spot (base + size) (j + 1)
      scan_more size e m other = record {
        within = omega arith;
        below = omega (arith, k.below);
        unfound = λ i. k.unfound h;
        same = rw (k.unfound h) (spot_more files count fits j base sfi nn size h e other so_far);
      }

      pub scan_found : (x : Spot) → (get_or files j past_end).sfi ≡ sfi → x ≡ spot_in (get_or files j past_end) base nn
          → Scanning files count sfi nn x base count
      scan_found x found e = record {
        within = le_refl count;
        below = omega (arith, k.below);
        unfound = λ i. absurd (omega arith);
        same =
            sym (spot_found files count fits j base sfi nn h found e so_far) ∙ sym (else_none x)
            ∙ ap (or_else x) (sym (spot_end files count fits count base sfi nn (le_refl count)));
      }
