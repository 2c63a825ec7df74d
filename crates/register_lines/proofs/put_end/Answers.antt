-- `register_lines::put_end`: by `run_end` the text END, the five digits and the line feed are one run, `end_of`.
use mathlib.Core.Path.{refl, ap, ◌∙◌}
use lib.ListN.{length}
use native.Mathlib.Omega.{arith}
use Rattle.print_numbers.proofs.Runs.{run_end}
use Rattle.model.specs.Lines.{end_of}
use Rattle.lists.specs.Over.{length_over}
use Rattle.register_lines.proofs.put_end.Goals as goal

pub returns : goal.returns
unfolding end_of
returns c =
    let u = c in
    rw (c.put_five.ensures, u.put_bytes.ensures) (run_end _ _ _ _ _ _ _ refl (omega arith))

pub shape_of-out : goal.shape_of-out
shape_of-out c = ap length (returns c) ∙ length_over _ _ _
