-- `job_text::pair_between`: the table holds the value of each character (`value_at`), and a value below 16 is
-- that of a digit (`digit_in`). Where nothing is given, nothing is claimed.
use Prim.Native.Nat.{ℕ, ◌<◌}
use mathlib.Core.Path.{◌≡◌, ◌∙◌}
use mathlib.Core.List.{List}
use native.Mathlib.Nat.{zero-add}
use native.Mathlib.Omega.{arith}
use lib.ListN.{get_or}
use borrow.Author.Rules.{rules}
use Rattle.job_text.specs.Pairs.{value_of, values_from, value_at, digit_in}
use Rattle.job_text.proofs.pair_between.Goals as goal

told : {v : List ℕ} {x : ℕ} → v ≡ values_from 0 256 → x < 256 → get_or v x 0 ≡ value_of x
told {v} {x} e h = rw e (value_at 256 0 x h ∙ rw zero-add)

pub returns-then-low-lt-NO_VALUE : goal.returns-then-low-lt-NO_VALUE
returns-then-low-lt-NO_VALUE c =
    let high = told {x = c.args.x} c.requires (search rules) in
    let low = told {x = c.args.y} c.requires (search rules) in
    record {
      between = c.in-Between.is;
      high = digit_in _ (omega arith);
      low = digit_in _ (omega arith);
      byte = omega arith;
    }
