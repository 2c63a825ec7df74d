-- A command's walk, and where the last of its steps began.
use Rattle.std.specs.Prelude.{ℕ, zero, suc, ◌-◌, List, [], ◌∷◌, length}
use Rattle.model.specs.declared.Open.{Open}
use Rattle.model.specs.declared.Open.TheVariants.{Shut, Table, Record}
use Rattle.model.specs.Loads.{State}
use Rattle.model.specs.Rules.{Result, went, asked, failed, fed, grouping}

pub record Paced : Type 0 where
  pub result : Result ℕ
  pub place : ℕ

-- nothing is left
abbrev pub rests : ℕ → State → Paced
rests place s = record { result = went 0 s; place = place }

-- a step that began at `at`, and what follows it
abbrev pub paced_on : (List ℕ → State → Paced) → ℕ → Result (List ℕ) → Paced
paced_on later at (went left t) = later left t
paced_on later at (asked q t) = record { result = asked q t; place = at }
paced_on later at (failed w t) = record { result = failed w t; place = at }

-- `Command.walk` with the place: n is the number of the command's data bytes
unfoldable pub paced : ℕ → ℕ → ℕ → ℕ → ℕ → List ℕ → State → Paced
paced zero capacity n p1 place bytes s = rests place s
paced (suc fuel) capacity n p1 place [] s = rests place s
paced (suc fuel) capacity n p1 place (b ∷ bs) s =
    let at = n - length (b ∷ bs) in
    paced_on (λ left t. paced fuel capacity n p1 at left t) at (grouping capacity n p1 (b ∷ bs) s)

-- what is left of a command: an open value's bytes, and then the groupings
abbrev pub onward_by : Open → ℕ → ℕ → ℕ → ℕ → List ℕ → State → Paced
onward_by Shut capacity n p1 place bytes s = paced (length bytes) capacity n p1 place bytes s
onward_by (Table held missing) capacity n p1 place bytes s =
    paced_on (λ left t. paced (length left) capacity n p1 (n - length bytes) left t) (n - length bytes) (fed bytes s)
onward_by (Record tag written missing) capacity n p1 place bytes s =
    paced_on (λ left t. paced (length left) capacity n p1 (n - length bytes) left t) (n - length bytes) (fed bytes s)

unfoldable pub onward : ℕ → ℕ → ℕ → ℕ → List ℕ → State → Paced
onward capacity n p1 place [] s = rests place s
onward capacity n p1 place (b ∷ bs) s = onward_by s.load.running.pending capacity n p1 place (b ∷ bs) s
