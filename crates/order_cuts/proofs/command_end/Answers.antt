-- `order_cuts::command_end`: the command from `start` is being filled up to `at` (`Filling`); a portion goes into it
-- (`fill_more`), and it closes where the next does not fit, or where the order ends.
use native.Mathlib.Omega.{arith}
use Rattle.order_cuts.proofs.Filling.{fill_starts, fill_more, fill_closes, fill_ends}
use Rattle.order_cuts.proofs.command_end.Goals as goal

pub loop-at-init : goal.loop-at-init
loop-at-init c = let a = c.args in fill_starts a.order.now a.start c.requires.0
    c.requires.1

pub overflow_sub-room : goal.overflow_sub-room
overflow_sub-room c = let l = c.loop-at in l.invariant.forth

pub overflow_sub-room-in-loop-at : goal.overflow_sub-room-in-loop-at
overflow_sub-room-in-loop-at c =
    let l = c.loop-at in
    let f = l.invariant.forth in
    let r = l.invariant.room in
    omega arith

pub portion_at-step-requires : goal.portion_at-step-requires
portion_at-step-requires c = let l = c.loop-at in l.invariant.within

pub returns-then-step-eq0 : goal.returns-then-step-eq0
returns-then-step-eq0 c =
    let a = c.args in
    let l = c.loop-at in
    let s = c.portion_at-step in
    fill_closes a.order.now a.start (record { at = l.at; inside = l.inside }) l.invariant s.result
    s.ensures (omega arith) c.if-step-eq0.true

pub overflow_add-at : goal.overflow_add-at
overflow_add-at c =
    let a = c.args in
    let l = c.loop-at in
    let s = c.portion_at-step in
    let goes = fill_more a.order.now a.start (record { at = l.at; inside = l.inside }) l.invariant s.result
    s.ensures (omega arith) c.if-step-eq0.false in
    let w = goes.within in
    omega arith

pub loop-at-smaller : goal.loop-at-smaller
loop-at-smaller c =
    let a = c.args in
    let l = c.loop-at in
    let s = c.portion_at-step in
    let goes = fill_more a.order.now a.start (record { at = l.at; inside = l.inside }) l.invariant s.result
    s.ensures (omega arith) c.if-step-eq0.false in
    let w = goes.within in
    omega arith

pub loop-at-preserved : goal.loop-at-preserved
loop-at-preserved c =
    let a = c.args in
    let l = c.loop-at in
    let s = c.portion_at-step in
    fill_more a.order.now a.start (record { at = l.at; inside = l.inside }) l.invariant s.result
    s.ensures (omega arith) c.if-step-eq0.false

pub returns : goal.returns
returns c =
    let a = c.args in
    let l = c.loop-at in
    fill_ends a.order.now a.start (record { at = l.at; inside = l.inside }) l.invariant (omega arith)
