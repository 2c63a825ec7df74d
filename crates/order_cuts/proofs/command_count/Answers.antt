-- `order_cuts::command_count`: the count so far and the commands from `end` on are the whole cut (`Counted`); each
-- command moves on, so the count cannot overflow and the loop ends.
use native.Mathlib.Omega.{arith}
use Rattle.order_cuts.proofs.Commands.{fitting_start, count_one, count_more, count_all}
use Rattle.order_cuts.proofs.command_count.Goals as goal

pub command_end-end-requires : goal.command_end-end-requires
command_end-end-requires c = (omega arith, fitting_start c.args.order.now c.requires)

pub loop-end-init : goal.loop-end-init
loop-end-init c = count_one c.args.order.now c.command_end-end.result c.command_end-end.ensures

pub command_end-end-requires-in-loop-end : goal.command_end-end-requires-in-loop-end
command_end-end-requires-in-loop-end c = let l = c.loop-end in (l.invariant.within, l.invariant.fitting)

pub overflow_add-count : goal.overflow_add-count
overflow_add-count c =
    let l = c.loop-end in
    let b = l.invariant.behind (omega arith) in
    omega arith

pub loop-end-smaller : goal.loop-end-smaller
loop-end-smaller c =
    let m = c.command_end-end-in-loop-end.ensures.moves (omega arith) in
    let w = c.command_end-end-in-loop-end.ensures.within in
    omega arith

pub loop-end-preserved : goal.loop-end-preserved
loop-end-preserved c =
    let a = c.args in
    let l = c.loop-end in
    count_more a.order.now l.end c.command_end-end-in-loop-end.result l.count l.invariant (omega arith)
    c.command_end-end-in-loop-end.ensures

pub returns : goal.returns
returns c =
    let a = c.args in
    let l = c.loop-end in
    count_all a.order.now l.end l.count l.invariant (omega arith)
