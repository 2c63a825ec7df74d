-- `sound_open::record_fits`: `fits_behind` asks without the sum: missing fits behind written exactly if the sum fits.
-- Where written alone is over the size, the sum is too.
use Prim.Native.Nat.{◌+◌}
use native.Mathlib.Omega.{arith}
use Rattle.sound_open.proofs.Laws.{fits_behind}
use borrow.Author.Tests.{lt-leb}
use Rattle.sound_open.proofs.record_fits.Goals as goal

pub returns-then-size-written : goal.returns-then-size-written
returns-then-size-written c =
    let a = c.args in
    rw (c.in-At.is, lt-leb (a.written + a.missing) c.in-At.size (omega arith))

pub returns-else-size-written : goal.returns-else-size-written
returns-else-size-written c =
    let a = c.args in
    rw c.in-At.is (fits_behind a.written a.missing c.in-At.size c.if-size-written.false)
