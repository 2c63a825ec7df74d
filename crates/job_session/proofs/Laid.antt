-- An event's front bytes laid over 260 zeros are its record.
use Prim.Native.Nat.{ℕ, ◌-◌, ◌≤◌}
use mathlib.Core.Path.{◌≡◌, ap, ◌∙◌}
use mathlib.Core.List.{List, ◌∷◌, ◌++◌}
use native.Mathlib.Omega.{arith}
use lib.ListN.{length}
use Rattle.lists.specs.Bytes.{zeros}
use Rattle.lists.specs.Over.{overwrite, over_padded}
use Rattle.model.specs.Stored.{Event, record_of, record_size, data_room}

abbrev front_of : Event → List ℕ
front_of e = e.kind ∷ e.p1 ∷ 0 ∷ length e.bytes ∷ e.bytes

pub record_laid : (e : Event) → length e.bytes ≤ data_room → overwrite (zeros record_size) 0 (front_of e) ≡ record_of e
unfolding record_of
record_laid e h =
    let n : record_size - length (front_of e) ≡ 256 - length e.bytes = omega arith in
    over_padded record_size (front_of e) (omega arith) ∙ ap (λ (k : ℕ). front_of e ++ zeros k) n
