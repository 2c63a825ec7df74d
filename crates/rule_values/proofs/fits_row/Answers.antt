-- `rule_values::fits_row`: each return is a case of `fits_row`; where the step is 1 nothing remains (`mod-one`).
use native.Mathlib.Nat.{mod-one}
use Rattle.lists.specs.Choice.{cases}
use Rattle.rule_values.proofs.fits_row.Goals as goal

pub returns-then-x-eq1 : goal.returns-then-x-eq1
returns-then-x-eq1 c = rw (c.if-x-eq1.true, mod-one) (search cases)
