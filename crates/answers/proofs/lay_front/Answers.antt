-- `answers::lay_front`: the name's `namelen` bytes are all there; behind the four of the head they make `front`.
use Prim.Native.Nat.{◌≤◌}
use mathlib.Core.Path.{◌≡◌, sym}
use native.Mathlib.Omega.{arith}
use lib.ListN.{length, take}
use borrow.Author.Rules.{rules}
use lib.Seq.{length-take-le}
use Rattle.answers.proofs.Fci.{front_laid}
use Rattle.answers.proofs.lay_front.Goals.{Start}
use Rattle.answers.proofs.lay_front.Goals as goal

-- the name's bytes are all there
name-there : (s : Start) → s.args.life.namelen ≤ length s.args.life.name
name-there s = let e : length s.args.life.name ≡ 16 = search rules in omega arith

name-long : (s : Start) → length (take s.args.life.namelen s.args.life.name) ≡ s.args.life.namelen
name-long s = length-take-le s.args.life.namelen s.args.life.name (name-there s)

pub slice_bounds-name-end : goal.slice_bounds-name-end
slice_bounds-name-end c = let first = c in
    name-there (goal.at.slice_bounds-name-end c).Start

pub slice_bounds-put_bytes-end-2 : goal.slice_bounds-put_bytes-end-2
slice_bounds-put_bytes-end-2 c = let first = c in
    sym (name-long (goal.at.slice_bounds-put_bytes-end-2 c).Start)

pub put_bytes-requires-2 : goal.put_bytes-requires-2
put_bytes-requires-2 c = let first = c in
    omega (arith, name-long (goal.at.put_bytes-requires-2 c).Start)

pub returns : goal.returns
returns c =
    let second = c in
    let first = second in
    let a = first.args in
    front_laid a.answer.now _ _ _ first.put_bytes.ensures second.put_bytes-2.ensures
