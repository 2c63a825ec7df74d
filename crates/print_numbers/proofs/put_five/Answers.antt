-- `print_numbers::put_five`: three digits set one by one, and `two` behind them, are the run of five (`run_five`).
use mathlib.Core.Path.{◌∙◌}
use lib.ListN.{length-set}
use Rattle.lists.specs.Over.{length_over}
use Rattle.print_numbers.proofs.Runs.{run_five}
use Rattle.print_numbers.proofs.put_five.Goals as goal

pub shape_of-out : goal.shape_of-out
shape_of-out c = rw c.put_two.ensures (simp (length_over, length-set))

pub returns : goal.returns
returns c =
    let a = c.args in
    c.put_two.ensures ∙ run_five a.out.now a.at _ _ _ a.n
