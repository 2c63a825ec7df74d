-- Bytes of an open '3100', some at a time: what a part of them comes to.
use Rattle.std.specs.Prelude.{ℕ, zero, suc, ◌-◌, ◌≤◌, ◌<◌, ◌≡◌, List, drop}
use Rattle.lists.specs.Bytes.{part}
use Rattle.model.specs.declared.Running.{Running}
use Rattle.model.specs.Loads.{running_taken, running_open}
use Rattle.model.specs.declared.Open.{Open}
use Rattle.model.specs.declared.Open.TheVariants.{Shut, Table, Record}
use Rattle.model.specs.declared.Verdict.{Verdict}
use Rattle.model.specs.declared.Verdict.TheVariants.{Passes, Refuses}
use Rattle.model.specs.Loads.{State}
use Rattle.model.specs.Rules.{Result, went, failed, table_bytes}

-- how many bytes of a descriptor are held
abbrev pub held_of : Open → ℕ
held_of Shut = 0
held_of (Table held missing) = held
held_of (Record tag written missing) = 0

-- a descriptor's last byte: where it passes, the verdict tells the place behind it
abbrev pub Ended : Verdict → ℕ → Result ℕ → State → Type 0
Ended (Passes i) next r t = (i ≡ next) × (r ≡ went 0 t)
Ended (Refuses w) next r t = r ≡ failed w t

-- "Row 5 is taken when the value's last byte is": a descriptor in the table, which misses so much behind it
unfoldable pub table_run : ℕ → Running → Running
table_run zero p = running_taken 5 (running_open Shut p)
table_run (suc m) p = running_open (Table 0 (suc m)) p

-- bytes of an open '3100' from one place to another: up to the place that the verdict tells they are taken, or the
-- card refuses them
abbrev pub TakenTo : Verdict → List ℕ → ℕ → ℕ → State → State → Type 0
TakenTo (Passes i) bytes at end s t = (at < i) × (i ≤ end) × (table_bytes (part bytes at (i - at)) s ≡ went 0 t)
TakenTo (Refuses w) bytes at end s t = table_bytes (part bytes at (end - at)) s ≡ failed w t

-- what the bytes of an open value came to: the place behind those that it missed, or a word
abbrev pub fed_as : Verdict → List ℕ → State → Result (List ℕ)
fed_as (Passes i) bytes s = went (drop i bytes) s
fed_as (Refuses w) bytes s = failed w s

abbrev pub Reaches : Verdict → ℕ → Type 0
Reaches (Passes i) end = i ≡ end
Reaches (Refuses w) end = Unit {0}
