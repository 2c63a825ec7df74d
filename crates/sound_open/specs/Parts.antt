-- The clauses of sound in the groups in which they are asked: those on life, those on what is loaded, those on an
-- open value.
use Rattle.std.specs.Prelude.{ℕ, Bool, ◌&&◌}
use Rattle.model.specs.declared.Life.{Life}
use Rattle.model.specs.declared.Loading.{Loading}
use Rattle.model.specs.Sound.{gp_ok, internal_ok, name_ok, selected_ok, rows_ok, table_placed, secrets_ok, open_ok}
use Rattle.model.specs.Sound.{pending_fits, some_missing}

abbrev pub life_part : Life → ℕ → Bool
life_part f i = gp_ok f.gp && internal_ok i f.gp && name_ok f.namelen f.gp && selected_ok f.selected
    f.gp i

abbrev pub load_part : Loading → ℕ → Bool
load_part l g = rows_ok l.running.rows g && table_placed l g && secrets_ok l.secrets

abbrev pub open_part : Loading → ℕ → Bool
open_part l g = open_ok l.running.pending g l.running.internal && pending_fits
    l.running.pending l && some_missing l.running.pending
