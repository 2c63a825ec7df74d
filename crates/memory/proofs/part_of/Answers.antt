-- `memory::part_of`: start and length, each cut to the bytes, give `part` of them.
use Prim.Native.Nat.{ℕ, ◌+◌, ◌-◌, min}
use mathlib.Core.Path.{◌≡◌, ap}
use mathlib.Core.List.{List}
use lib.ListN.{length, take, drop}
use native.Mathlib.Omega.{arith}
use Rattle.lists.specs.Bytes.{part}
use Rattle.lists.specs.Least.{drop_least, part_least}
use Rattle.memory.proofs.part_of.Goals as goal

part-so : (s : List ℕ) (start len from n : ℕ) → from ≡ min start (length s)
    → n ≡ min len (length s - from)
    → take (from + n - from) (drop from s) ≡ part s start len
part-so s start len from n e f =
    let g : from + n - from ≡ min len (length s - from) = omega arith in
    rw (g, part_least s from len) (ap (λ (l : List ℕ). take len l) (rw e (drop_least start s)))

pub returns : goal.returns
returns c =
    let least = c.least-from in
    let a = c.args in
    part-so a.s.now a.start a.len least.result c.least.result
    least.ensures c.least.ensures
