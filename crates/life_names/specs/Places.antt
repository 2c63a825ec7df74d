-- Where INSTALL's data has its names and its tail.
use Rattle.std.specs.Prelude.{ℕ, ◌+◌, cond, List, eqb}
use Rattle.lists.specs.Bytes.{padded}
use Rattle.model.specs.declared.Life.{Life}
use Rattle.model.specs.Events.{Names, names_in}
use Rattle.life_names.specs.declared.Places.{Places}

abbrev pub placed : ℕ → ℕ → ℕ → Places
placed p m i = record { first = p; second = m; third = i; name = 3 + p + m; tail = 3 + p + m + i }

abbrev pub places_in : List ℕ → Places
places_in d = placed (names_in d).package_len (names_in d).module_len (names_in d).instance_len

-- the life that INSTALL '04' or '0C' gives
abbrev pub named_as : Life → ℕ → Names → Life
named_as f p1 n = record {
  gp = cond (eqb p1 0x04) 0x03 0x07;
  selected = f.selected;
  name = padded 16
      n.name;
  namelen = n.instance_len;
}
