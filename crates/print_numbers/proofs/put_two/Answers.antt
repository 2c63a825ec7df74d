-- `print_numbers::put_two`: the two bytes that are set one behind the other are one run of two (`run_two`).
use Rattle.print_numbers.proofs.Runs.{run_two}
use Rattle.print_numbers.proofs.put_two.Goals as goal

pub returns : goal.returns
returns c = run_two _ _ _ _
