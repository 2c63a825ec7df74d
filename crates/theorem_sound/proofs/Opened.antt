-- What soundness says of an open value: what the code must know where it takes the value's bytes.
use Prim.Native.Nat.{ℕ, ◌+◌, ◌*◌, ◌%◌, ◌≤◌}
use mathlib.Core.Path.{◌≡◌, refl, subst}
use mathlib.Core.Bool.{true, not, ◌&&◌, false≢true}
use native.Mathlib.Nat.{le_trans}
use borrow.Author.Tests.{leb-true, ltb-true, eqb-true, not-true}
use Rattle.model.specs.declared.Open.{Open}
use Rattle.model.specs.declared.Open.TheVariants.{Table, Record}
use Rattle.model.specs.declared.Life.{Life}
use Rattle.model.specs.declared.Loading.{Loading}
use Rattle.model.specs.declared.Spot.{Spot}
use Rattle.model.specs.declared.Spot.TheVariants.{Nowhere, At}
use Rattle.model.specs.Stored.{area_size}
use Rattle.model.specs.Rows.{taken, descriptor_size, table_room}
use Rattle.model.specs.Table.{table_passes, total, spot_of}
use Rattle.model.specs.Loads.{file_list}
use Rattle.model.specs.Rules.{tag_spot}
use Rattle.model.specs.Sound.{table_fits, record_fits, pending_fits, sound_with}
use Rattle.theorem_sound.specs.Opened.{TableOpen, RecordOpen}
use Rattle.lists.specs.Truth.{and_l, and_r}
use Rattle.theorem_sound.proofs.Parts.{sound_parts}
use Rattle.theorem_sound.proofs.Within.{spot_within, total_passes}

pub table_facts : (rows count held missing : ℕ) → (not (taken rows 5) && table_fits count held missing) ≡ true
    → TableOpen rows count held missing
table_facts rows count held missing e =
    let n = count * descriptor_size + held + missing in
    record {
      untaken = not-true (taken rows 5) (search and_l);
      fits = leb-true n table_room (search (and_l, and_r));
      whole = eqb-true (n % descriptor_size) 0 (search (and_l, and_r));
      part = ltb-true held descriptor_size (search (and_l, and_r));
    }

-- AN OPEN '3100'
pub table_opened : (l : Loading) (held missing : ℕ) → l.running.pending ≡ Table held missing
    → pending_fits l.running.pending l ≡ true
    → TableOpen l.running.rows l.count held missing
table_opened l held missing e h = table_facts l.running.rows l.count held missing
    (subst (λ (o : Open). pending_fits o l ≡ true) e h)

record_fits_lem : (l : Loading) (tag written missing : ℕ) (x : Spot) → tag_spot (file_list l) tag ≡ x
    → record_fits x written missing ≡ true
    → total (file_list l) ≤ area_size → RecordOpen l tag written missing
record_fits_lem l tag written missing Nowhere e h t = absurd (false≢true h)
record_fits_lem l tag written missing (At base size) e h t = record {
  base = base;
  size = size;
  place = e;
  fits = leb-true (written + missing) size h;
  within = le_trans (spot_within (file_list l) _ _ base size e) t;
}

-- AN OPEN 'ssnn'
pub record_opened : (l : Loading) (tag written missing : ℕ) → l.running.pending ≡ Record tag written missing
    → pending_fits l.running.pending l ≡ true
    → table_passes l.files l.count ≡ true → RecordOpen l tag written missing
record_opened l tag written missing e h p =
    record_fits_lem l tag written missing (tag_spot (file_list l) tag) refl
    (subst (λ (o : Open). pending_fits o l ≡ true) e h)
    (total_passes l.files l.count p)

-- the same of a sound state
pub sound_table : (f : Life) (l : Loading) (held missing : ℕ) → sound_with f l ≡ true
    → l.running.pending ≡ Table held missing
    → TableOpen l.running.rows l.count held missing
sound_table f l held missing s e = table_opened l held missing e (sound_parts f l s).fits

pub sound_record : (f : Life) (l : Loading) (tag written missing : ℕ) → sound_with f l ≡ true
    → l.running.pending ≡ Record tag written missing
    → RecordOpen l tag written missing
sound_record f l tag written missing s e = record_opened l tag written missing e (sound_parts f l s).fits
    (sound_parts f l s).passes

-- a record that is shown lies within the file area
pub sound_spot : (f : Life) (l : Loading) (sfi nn base size : ℕ) → sound_with f l ≡ true
    → spot_of (file_list l) sfi nn ≡ At base size → base + size ≤ area_size
sound_spot f l sfi nn base size s e =
    le_trans (spot_within (file_list l) sfi nn base size e)
    (total_passes l.files l.count (sound_parts f l s).passes)
