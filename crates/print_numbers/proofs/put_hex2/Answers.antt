-- `print_numbers::put_hex2`: two digits set one by one are `hex2` laid at `at` (`run_two`).
use Rattle.print_numbers.proofs.Runs.{run_two}
use Rattle.print_numbers.proofs.put_hex2.Goals as goal

pub returns : goal.returns
returns c = rw (c.hex_digit.ensures, c.hex_digit-2.ensures) (run_two _ _ _ _)
