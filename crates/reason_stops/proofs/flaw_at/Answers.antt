-- `reason_stops::flaw_at`: fewer than 18 bytes left are no flaw; else the array holds just 18 of them (`part_laid`),
-- and `flaw_of` judges their descriptor.
use Prim.Native.Nat.{ℕ, ◌+◌, ◌-◌}
use mathlib.Core.Path.{◌≡◌, ap}
use mathlib.Core.List.{List}
use native.Mathlib.Omega.{arith}
use Rattle.model.specs.Table.{descriptor_of}
use Rattle.model.specs.Loads.{file_list}
use Rattle.table_flaws.specs.Flaws.{flaw_of}
use borrow.Author.Tests.{lt-ltb, le-ltb}
use Rattle.reason_stops.specs.Stops.{flaw_at}
use Rattle.reason_stops.proofs.Stops.{part_laid}
use Rattle.reason_stops.proofs.flaw_at.Goals as goal

pub returns-then-d-start : goal.returns-then-d-start
unfolding flaw_at
returns-then-d-start c = rw (lt-ltb _ _ c.if-d-start.true)

pub returns : goal.returns
unfolding flaw_at
returns c =
    let s = c in
    let n : s.args.start + 18 - s.args.start ≡ 18 = omega arith in
    rw (
      c.flaw_of.ensures,
      c.descriptor_of-file.ensures,
      c.lay.ensures,
      le-ltb _ _ c.if-d-start.false,
    )
    (ap (λ (x : List ℕ). flaw_of (descriptor_of x) (file_list s.args.l))
    (part_laid s.args.d.now s.args.start _ n (omega arith)))
