-- The cut of an order, from a place on.
use Rattle.std.specs.Prelude.{ℕ, ◌+◌, ◌-◌, ◌≤◌, ◌<◌, ◌≡◌, cond, List, [], ◌∷◌, ◌++◌, ltb, length, take, drop}
use Rattle.lists.specs.Bytes.{part}
use Rattle.model.specs.Stored.{data_room}
use Rattle.model.specs.Order.{single, units_in, packed}
use Rattle.order_cuts.specs.declared.Place.{Place}

-- every unit fits in a command of its own
pub data Fitting : List (List ℕ) → Type 0 where
  none : Fitting []
  more : {u : List ℕ} {us : List (List ℕ)} → length u ≤ data_room → Fitting us → Fitting (u ∷ us)

-- an order that can be cut: each of its units fits in a command
unfoldable pub cuttable : List ℕ → Type 0
cuttable order = Fitting (units_in (length order) order)

-- the units of bytes of which the first `inside` are a spannable value's
abbrev pub units_of : ℕ → ℕ → List ℕ → List (List ℕ)
units_of fuel inside rest = single (take inside rest) ++ units_in fuel (drop inside rest)

-- the units from a place on
unfoldable pub units_from : List ℕ → Place → List (List ℕ)
units_from order p = units_of (length order) p.inside (drop p.at order)

-- the commands from a place on where one begins; at the order's end there are none
unfoldable pub commands_from : List ℕ → Place → List (List ℕ)
commands_from order p = cond (ltb p.at (length order)) (packed [] (units_from order p)) []

-- a command that is being filled: where it begins, and how far it is
pub record Filling (order : List ℕ) (start now : Place) : Type 0 where
  pub forth : start.at ≤ now.at
  pub within : now.at ≤ length order
  pub room : now.at ≤ start.at + data_room
  pub goes : packed [] (units_from order start) ≡ packed (part order start.at (now.at - start.at))
      (units_from order now)
  pub fitting : Fitting (units_from order now)

-- a command of the cut: where it begins and where it ends
pub record Command (order : List ℕ) (start end : Place) : Type 0 where
  pub forth : start.at ≤ end.at
  pub within : end.at ≤ length order
  pub room : end.at ≤ start.at + data_room
  pub moves : start.at < length order → start.at < end.at
  pub cut : packed [] (units_from order start) ≡ part order start.at (end.at - start.at) ∷ commands_from order end
  pub fitting : Fitting (units_from order end)
