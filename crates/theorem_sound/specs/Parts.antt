-- "Sound means", clause by clause, each as a fact of its own.
use Rattle.std.specs.Prelude.{◌≤◌, ◌<◌, ◌^◌, ◌≡◌, true, not, ◌||◌, eqb}
use Rattle.model.specs.declared.Life.{Life}
use Rattle.model.specs.declared.Loading.{Loading}
use Rattle.model.specs.Table.{table_limit, table_passes}
use Rattle.model.specs.Sound.{gp_ok, internal_ok, name_ok, selected_ok, table_placed, secrets_ok, open_ok, pending_fits}
use Rattle.model.specs.Sound.{some_missing}

pub record SoundParts (f : Life) (l : Loading) : Type 0 where
  pub gp : gp_ok f.gp ≡ true
  pub internal : internal_ok l.running.internal f.gp ≡ true
  pub name : name_ok f.namelen f.gp ≡ true
  pub selected : selected_ok f.selected f.gp l.running.internal ≡ true
  pub count : l.count ≤ table_limit
  pub passes : table_passes l.files l.count ≡ true
  pub rows : l.running.rows < 2 ^ 11
  pub absent : (eqb l.running.rows 0 || not (eqb f.gp 0x00)) ≡ true
  pub placed : table_placed l f.gp ≡ true
  pub secrets : secrets_ok l.secrets ≡ true
  pub opened : open_ok l.running.pending f.gp l.running.internal ≡ true
  pub fits : pending_fits l.running.pending l ≡ true
  pub some : some_missing l.running.pending ≡ true
