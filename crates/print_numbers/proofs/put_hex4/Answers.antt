-- `print_numbers::put_hex4`: two hex digits of `w / 256`, then two of `w % 256`; by `run_more` the two runs are one.
use mathlib.Core.Path.{refl, ◌∙◌}
use Rattle.print_numbers.proofs.Runs.{run_more}
use Rattle.print_numbers.proofs.put_hex4.Goals as goal

pub returns : goal.returns
returns c =
    c.put_hex2-2.ensures
    ∙ rw c.put_hex2.ensures (run_more _ _ _ _ _ refl)
