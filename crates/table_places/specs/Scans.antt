-- The search for a record's place, file by file, by whoever has the table.
use Rattle.std.specs.Prelude.{ℕ, ◌*◌, ◌≤◌, ◌<◌, ◌≡◌, cond, List, eqb, take, drop}
use Rattle.model.specs.declared.Descriptor.{Descriptor}
use Rattle.model.specs.declared.Spot.{Spot}
use Rattle.model.specs.declared.Spot.TheVariants.{Nowhere, At}
use Rattle.model.specs.Table.{spot_from, spot_of}

-- "SFI 0" is no file's: there is nothing to look at
abbrev pub scan_from : ℕ → ℕ → ℕ
scan_from sfi count = cond (eqb sfi 0) count 0

abbrev pub or_else : Spot → Spot → Spot
or_else Nowhere x = x
or_else (At base size) x = At base size

-- j files are looked at, which take so much of the area; none of them had the SFI, or all are done
pub record Scanning (files : List Descriptor) (count sfi nn : ℕ) (spot : Spot) (base j : ℕ) : Type 0 where
  pub within : j ≤ count
  pub below : base ≤ j * 65535
  pub unfound : j < count → spot ≡ Nowhere
  pub same : spot_of (take count files) sfi nn ≡ or_else spot (spot_from (drop j (take count files)) base sfi nn)
