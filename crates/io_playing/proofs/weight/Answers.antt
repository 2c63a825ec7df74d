-- `io_playing::weight`: a place of up to 4096 times a byte of up to 255 is at most 1044480 (`most`).
use Rattle.std.proofs.Common.{ℕ, ◌+◌, ◌*◌, ◌≤◌, ◌<◌, arith, rules}
use native.Mathlib.Nat.{mul-le-mul}
use Rattle.io_playing.proofs.weight.Goals as goal

-- a place up to 4,096 times a byte
most : (i b : ℕ) → i < 4096 → b < 256 → (i + 1) * b ≤ 1044480
most i b p q =
    let h : i + 1 ≤ 4096 = omega arith in
    let k : b ≤ 255 = omega arith in
    mul-le-mul h k

pub returns : goal.returns
returns c = most c.args.i c.args.b c.requires (search rules)
