-- "Sound means": clause by clause, in the paper's order, as it says and no more.
use Rattle.std.specs.Prelude.{ℕ, ◌+◌, ◌*◌, ◌%◌, ◌^◌, Bool, true, false, cond, not, ◌&&◌, ◌||◌, List, [], ◌∷◌, eqb, ltb, leb}
use Rattle.model.specs.declared.Secret.{Secret}
use Rattle.model.specs.declared.Open.{Open}
use Rattle.model.specs.declared.Open.TheVariants.{Shut, Table, Record}
use Rattle.model.specs.declared.Life.{Life}
use Rattle.model.specs.declared.Loading.{Loading}
use Rattle.model.specs.declared.Card.{Card}
use Rattle.model.specs.declared.Spot.{Spot}
use Rattle.model.specs.declared.Spot.TheVariants.{Nowhere, At}
use Rattle.model.specs.Rows.{taken, descriptor_size, table_room, secret_room}
use Rattle.model.specs.Table.{table_limit, table_passes}
use Rattle.model.specs.Loads.{file_list}
use Rattle.model.specs.Rules.{tag_spot}

-- "GP among '00', '03', '07', '83', '87'"
abbrev pub gp_ok : ℕ → Bool
gp_ok g = eqb g 0x00 || eqb g 0x03 || eqb g 0x07 || eqb g 0x83 || eqb g 0x87

-- "internal 'CC', or '5A' or 'A5' with '07' or '87'"
abbrev pub internal_ok : ℕ → ℕ → Bool
internal_ok i g = eqb i 0xCC || ((eqb i 0x5A || eqb i 0xA5) && (eqb g 0x07 || eqb g 0x87))

-- "name length 5 to 16, or 0 exactly when absent"
abbrev pub name_ok : ℕ → ℕ → Bool
name_ok n g = cond (eqb g 0x00) (eqb n 0) (leb 5 n && leb n 16)

-- "selected only at '07', and always at '07' with '5A'"
abbrev pub selected_ok : Bool → ℕ → ℕ → Bool
selected_ok sel g i = cond (eqb g 0x07) (sel || not (eqb i 0x5A)) (not sel)

-- "descriptors that each pass below after those before"
abbrev pub descriptors_ok : Loading → Bool
descriptors_ok l = leb l.count table_limit && table_passes l.files l.count

-- "rows 1 to 11 only, none when absent"
abbrev pub rows_ok : ℕ → ℕ → Bool
rows_ok rows g = ltb rows (2 ^ 11) && (eqb rows 0 || not (eqb g 0x00))

abbrev pub table_open : Open → Bool
table_open Shut = false
table_open (Table held missing) = true
table_open (Record tag written missing) = false

-- "descriptors only where row 5 is taken, '3100' is open, or the card is locked in '5A'"
abbrev pub table_placed : Loading → ℕ → Bool
table_placed l g = eqb l.count 0 || taken l.running.rows 5 || table_open l.running.pending ||
    (eqb l.running.internal 0x5A && eqb g 0x87)

-- "secrets at most 64 bytes"
unfoldable pub secrets_ok : List Secret → Bool
secrets_ok [] = true
secrets_ok (x ∷ xs) = leb x.len secret_room && secrets_ok xs

-- "either '3100', row 5 not taken (descriptors x 18 + held + missing at most 558 and a multiple of 18, held under 18)
-- or an 'ssnn' that rule e passes, written + missing at most its record"
abbrev pub table_fits : ℕ → ℕ → ℕ → Bool
table_fits count held missing =
    leb (count * descriptor_size + held + missing) table_room && eqb
    ((count * descriptor_size + held + missing) % descriptor_size) 0
    && ltb held descriptor_size

abbrev pub record_fits : Spot → ℕ → ℕ → Bool
record_fits Nowhere written missing = false
record_fits (At base size) written missing = leb (written + missing) size

abbrev pub pending_fits : Open → Loading → Bool
pending_fits Shut l = true
pending_fits (Table held missing) l = not (taken l.running.rows 5) && table_fits l.count held missing
pending_fits (Record tag written missing) l = record_fits (tag_spot (file_list l) tag) written missing

-- "missing at least 1 in both"
abbrev pub some_missing : Open → Bool
some_missing Shut = true
some_missing (Table held missing) = leb 1 missing
some_missing (Record tag written missing) = leb 1 missing

-- "an open value only at '07' with '5A'"
abbrev pub open_ok : Open → ℕ → ℕ → Bool
open_ok Shut g i = true
open_ok (Table held missing) g i = eqb g 0x07 && eqb i 0x5A
open_ok (Record tag written missing) g i = eqb g 0x07 && eqb i 0x5A

unfoldable pub sound_with : Life → Loading → Bool
sound_with f l =
    gp_ok f.gp && internal_ok l.running.internal f.gp && name_ok f.namelen f.gp && selected_ok
    f.selected f.gp l.running.internal
    && descriptors_ok l && rows_ok l.running.rows f.gp && table_placed l f.gp && secrets_ok l.secrets
    && open_ok l.running.pending f.gp l.running.internal && pending_fits
    l.running.pending l && some_missing l.running.pending

abbrev pub sound : Card → Bool
sound c = sound_with c.life c.loading
