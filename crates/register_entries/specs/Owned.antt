-- What the owner of the card's parts makes of a small reply.
use Rattle.std.specs.Prelude.{ℕ, Bool, false, cond, ◌&&◌, List, eqb}
use Rattle.model.specs.declared.Life.{Life}
use Rattle.model.specs.declared.Open.TheVariants.{Shut}
use Rattle.model.specs.declared.Running.{Running}
use Rattle.model.specs.Loads.{running_open, held_dropped}
use Rattle.event_replies.specs.Lives.{is_command}

-- the bytes for the walk
unfoldable pub span_of : ℕ → ℕ → ℕ → Bool → ℕ → ℕ → ℕ
span_of number gp internal selected kind n = cond (eqb number 0 && is_command kind n gp internal selected) n 0

-- "Locking sets '87', clears "selected" and drops an open value"
abbrev pub held_as : List ℕ → Running → Bool → List ℕ
held_as held p locks = cond locks (held_dropped p.pending held) held

abbrev pub shut_as : Running → Bool → Running
shut_as p locks = cond locks (running_open Shut p) p

abbrev pub locked_as : Life → Bool → Life
locked_as f locks = cond locks (record { gp = 0x87; selected = false; name = f.name; namelen = f.namelen }) f
