-- Sound is the conjunction of its clauses.
use Prim.Native.Nat.{◌^◌}
use mathlib.Core.Path.{◌≡◌}
use mathlib.Core.Bool.{true}
use borrow.Author.Tests.{leb-true, ltb-true, le-leb, lt-ltb}
use Rattle.model.specs.declared.Life.{Life}
use Rattle.model.specs.declared.Loading.{Loading}
use Rattle.model.specs.Table.{table_limit}
use Rattle.model.specs.Sound.{sound_with}
use Rattle.theorem_sound.specs.Parts.{SoundParts}
use Rattle.lists.specs.Truth.{and_l, and_r, and_i}

pub sound_parts : (f : Life) (l : Loading) → sound_with f l ≡ true → SoundParts f l
unfolding sound_with
sound_parts f l e = record {
  gp = search (and_l, and_r) depth 12;
  internal = search (and_l, and_r) depth 12;
  name = search (and_l, and_r) depth 12;
  selected = search (and_l, and_r) depth 12;
  count = leb-true l.count table_limit (search (and_l, and_r) depth 12);
  passes = search (and_l, and_r) depth 12;
  rows = ltb-true l.running.rows (2 ^ 11) (search (and_l, and_r) depth 12);
  absent = search (and_l, and_r) depth 12;
  placed = search (and_l, and_r) depth 12;
  secrets = search (and_l, and_r) depth 12;
  opened = search (and_l, and_r) depth 12;
  fits = search (and_l, and_r) depth 12;
  some = search (and_l, and_r) depth 12;
}

-- every clause, and so sound
pub sound_of_parts : (f : Life) (l : Loading) → SoundParts f l → sound_with f l ≡ true
unfolding sound_with
sound_of_parts f l p =
    and_i _ _ (and_i _ _ (and_i _ _ (and_i _ _ (and_i _ _ (and_i _ _ (and_i _ _ (and_i _ _ (and_i _ _ (and_i _ _
    p.gp p.internal) p.name) p.selected)
    (and_i _ _ (le-leb l.count table_limit p.count) p.passes))
    (and_i _ _ (lt-ltb l.running.rows (2 ^ 11) p.rows) p.absent)) p.placed) p.secrets) p.opened)
    p.fits) p.some
