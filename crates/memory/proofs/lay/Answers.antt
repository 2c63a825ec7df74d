-- `memory::lay`: after i turns the first i bytes are the source's, the others as they were (`over_more0`).
use mathlib.Core.Path.{sym}
use native.Mathlib.Omega.{arith}
use Rattle.lists.specs.Over.{over_more0, over_none, length_over}
use lib.Seq.{take_all}
use borrow.Author.Rules.{rules}
use Rattle.memory.proofs.lay.Goals as goal

pub loop-i-init : goal.loop-i-init
loop-i-init c = (search rules, sym (over_none _ 0))

pub bounds-dst-i : goal.bounds-dst-i
bounds-dst-i c =
    let a = c.args in
    let l = c.loop-i in
    rw (l.invariant.1, length_over) (omega arith)

pub loop-i-preserved : goal.loop-i-preserved
loop-i-preserved c =
    let l = c.loop-i in
    let a = c.args in
    (search rules, rw l.invariant.1 (over_more0 a.src.now a.dst.now l.i (search rules)))

pub shape_of-dst : goal.shape_of-dst
shape_of-dst c = rw (c.loop-i.invariant.1, length_over)

pub returns : goal.returns
returns c =
    let l = c.loop-i in
    let a = c.args in
    rw (l.invariant.1, take_all l.i a.src.now c.loop-i-test.false)
