-- `print_numbers::put_number`: `width` gives the place behind, and `put_digits` the bytes;
-- no number has more than 20 digits, so there is room.
use mathlib.Core.Path.{◌∙◌}
use borrow.Author.Rules.{rules}
use Rattle.print_numbers.proofs.put_number.Goals as goal

pub returns : goal.returns
returns c =
    let d = c.put_digits.ensures in
    let w = c.width-w.ensures.0 in
    (search rules, search rules, rw w, search rules, d ∙ rw w)
