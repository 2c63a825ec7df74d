-- Why an order is not complete: the order walked as completeness walks it, and the first piece that is not taken.
use Rattle.std.specs.Prelude.{ℕ, zero, suc, ◌+◌, ◌-◌, Bool, true, false, cond, List, [], ◌∷◌, length}
use Rattle.model.specs.declared.Open.{Open}
use Rattle.model.specs.declared.Open.TheVariants.{Shut, Table, Record}
use Rattle.model.specs.Loads.{State, file_list}
use Rattle.model.specs.Rules.{Result, went, asked, failed, grouping}
use Rattle.model.specs.Command.{ready}
use Rattle.model.specs.Order.{challenged_state}
use Rattle.reason_stops.specs.declared.Stop.{Stop}
use Rattle.reason_stops.specs.declared.Cause.TheVariants as cause
use Rattle.reason_stops.specs.Stops.{stop_as, stop_of}
use Rattle.reason_why.specs.declared.Why.{Why}
use Rattle.reason_why.specs.declared.Why.TheVariants.{Complete, Stops}

-- "and leaves no mandatory row missing and no value open": what is left at the end of n data bytes, three of them
-- those of '9484'. An open value is that of the last grouping, which began at `place`. The word is that of asking for
-- the end.
abbrev pub open_stop : Open → ℕ → ℕ → ℕ → Stop
open_stop Shut n place rows = stop_as (n - 3) 0 0x6985 (cause.Rows rows)
open_stop (Table held missing) n place rows = stop_as place 0x3100 0x6985 (cause.Open missing)
open_stop (Record tag written missing) n place rows = stop_as place tag 0x6985 (cause.Open missing)

abbrev pub end_stop : ℕ → ℕ → State → Stop
end_stop n place s = open_stop s.load.running.pending n place s.load.running.rows

unfoldable pub at_end : ℕ → ℕ → State → Why
at_end n place s = cond (ready s) Complete (Stops (end_stop n place s))

-- where what is left begins in the order
abbrev pub place_of : ℕ → List ℕ → ℕ
place_of n bytes = n - length bytes - 3

-- a grouping that is not taken, and the state that it leaves
unfoldable pub stops_at : ℕ → List ℕ → ℕ → State → Why
stops_at n bytes w t =
    Stops (stop_of t.load.running.rows t.load.running.last (file_list t.load) t.load.count w
    (place_of n bytes) bytes)

-- one grouping, and what follows it
abbrev pub why_on : (List ℕ → State → Why) → ℕ → List ℕ → Result (List ℕ) → Why
why_on later n bytes (went left t) = later left t
why_on later n bytes (asked tag t) = stops_at n bytes 0x9000 t
why_on later n bytes (failed w t) = stops_at n bytes w t

-- as many turns as there are bytes are enough
unfoldable pub why_from : ℕ → ℕ → ℕ → ℕ → List ℕ → State → Why
why_from zero capacity n place bytes s = at_end n place s
why_from (suc fuel) capacity n place [] s = at_end n place s
why_from (suc fuel) capacity n place (b ∷ bs) s =
    why_on (λ left t. why_from fuel capacity n (place_of n (b ∷ bs)) left t) n (b ∷ bs)
    (grouping capacity n 0x00 (b ∷ bs) s)

unfoldable pub why_not : ℕ → List ℕ → Why
why_not capacity order = why_from (length order) capacity (3 + length order) 0 order challenged_state

abbrev pub is_complete : Why → Bool
is_complete Complete = true
is_complete (Stops x) = false
