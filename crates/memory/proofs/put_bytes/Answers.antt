-- `memory::put_bytes`: the part from `at` on, written over at its front, back in its place (`over_mid`).
use Prim.Native.Nat.{◌-◌}
use native.Mathlib.Omega.{arith}
use lib.ListN.{length}
use Rattle.lists.specs.Over.{over_mid}
use Rattle.memory.proofs.put_bytes.Goals as goal

pub returns : goal.returns
returns c =
    let a = c.args in
    rw c.lay.ensures
    (over_mid a.dst.now a.src.now a.at (length a.dst.now - a.at) (omega arith) (omega arith))
