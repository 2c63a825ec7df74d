-- `memory::clear`: after i turns the first i bytes are zeros and the others as they were (`fill_more`).
use mathlib.Core.Path.{◌≡◌, refl}
use mathlib.Core.List.{append-nil}
use native.Mathlib.Omega.{arith}
use lib.ListN.{length, length-set, drop_of_length-le}
use borrow.Author.Fill.{fill_more}
use borrow.Author.Rules.{rules}
use Rattle.memory.proofs.clear.Goals as goal

pub loop-i-init : goal.loop-i-init
loop-i-init c = (search rules, refl, refl)

pub loop-i-preserved : goal.loop-i-preserved
loop-i-preserved c =
    let l = c.loop-i in
    let d = c.args.dst.now in
    (search rules, simp length-set l.invariant.1, rw l.invariant.2 (fill_more l.i 0 d (search rules)))

pub returns : goal.returns
returns c =
    let l = c.loop-i in
    let d = c.args.dst.now in
    let e : l.i ≡ length d = omega arith in
    rw (l.invariant.2, drop_of_length-le d {i = l.i} (omega arith), e) (append-nil _)
