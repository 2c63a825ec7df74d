-- `register_lines::put_counts`: by `run_fields` three fields, each with its blank, are one run of 12 bytes;
-- no write changes the length, so there is room for each.
use mathlib.Core.Path.{refl, ap, ◌∙◌}
use native.Mathlib.Omega.{arith}
use lib.ListN.{length, length-set}
use Rattle.lists.specs.Over.{length_over}
use Rattle.print_numbers.proofs.Runs.{run_fields}
use Rattle.register_lines.proofs.put_counts.Goals as goal

pub bounds-out-at-2 : goal.bounds-out-at-2
bounds-out-at-2 c = rw (c.put_two.ensures, length_over, length-set) (omega arith)

pub put_two-requires-2 : goal.put_two-requires-2
put_two-requires-2 c = rw (length-set, c.put_two.ensures, length_over, length-set)
    (omega arith)

pub bounds-out-at-3 : goal.bounds-out-at-3
bounds-out-at-3 c =
    let u = c in
    rw (c.put_two-2.ensures, length_over, length-set, u.put_two.ensures, length_over, length-set)
    (omega arith)

pub returns : goal.returns
returns c =
    let u = c in
    let v = u in
    rw (c.put_two-2.ensures, u.put_two.ensures, v.put_five.ensures)
    (run_fields _ _ _ _ _ _ _ _ _ _ _ _ _ refl (omega arith) (omega arith) (omega arith) (omega arith))

pub shape_of-out : goal.shape_of-out
shape_of-out c = ap length (returns c) ∙ length_over _ _ _
