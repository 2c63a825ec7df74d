-- `register_lines::put_line`: by `run_line` the counts, the states, the number of rows and the line feed
-- are one run, that of `line_with`.
use mathlib.Core.Path.{refl, ap, ◌∙◌}
use native.Mathlib.Omega.{arith}
use lib.ListN.{length}
use Rattle.print_numbers.proofs.Runs.{run_line}
use Rattle.model.specs.Lines.{line_with}
use Rattle.lists.specs.Over.{length_over}
use Rattle.register_lines.proofs.put_line.Goals as goal

pub returns : goal.returns
unfolding line_with
returns c =
    let put_two = c.put_two in
    let count = c.count in
    let u = c in
    let v = u in
    let a = v.args in
    rw (put_two.ensures, u.put_states.ensures, v.put_counts.ensures, v.capped.ensures, count.ensures)
    (run_line a.out.now _ _ _ _ _ _ _ _ refl (omega arith) (omega arith))

pub shape_of-out : goal.shape_of-out
shape_of-out c = ap length (returns c) ∙ length_over _ _ _
