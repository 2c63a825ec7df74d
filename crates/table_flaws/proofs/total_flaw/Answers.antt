-- `table_flaws::total_flaw`: `total_of` and `size_of` say the two parts of the sum; 4096 parts the two returns.
use Prim.Native.Nat.{◌+◌}
use native.Mathlib.Omega.{arith}
use borrow.Author.Tests.{le-leb, lt-leb}
use Rattle.table_flaws.proofs.total_flaw.Goals as goal

pub returns-then-before-size-le-AREA_SIZE : goal.returns-then-before-size-le-AREA_SIZE
returns-then-before-size-le-AREA_SIZE c =
    let before = c.total_of-before in
    let size = c.size_of-size in
    simp (← before.ensures.0, ← size.ensures.0, le-leb (before.result + size.result) 4096 (omega arith))

pub returns : goal.returns
returns c =
    let before = c.total_of-before in
    let size = c.size_of-size in
    simp (← before.ensures.0, ← size.ensures.0, lt-leb (before.result + size.result) 4096 (omega arith))
