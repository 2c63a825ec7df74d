-- `groupings::Lines::print_whole`: a grouping that is found ends further on and within the order (`found_ahead`), so
-- that less is left each turn.
use Rattle.std.proofs.Common.{arith}
use Rattle.groupings.proofs.Moves.{found_ahead}
use Rattle.groupings.proofs.Lines.print_whole.Goals as goal

pub loop-at-smaller : goal.loop-at-smaller
loop-at-smaller c =
    let e = c.found_at-found.ensures in
    let h = found_ahead c.args.order.now c.loop-at.at (rw e at c.if-found-ne0.false) in
    rw e (omega arith)

pub loop-at-preserved : goal.loop-at-preserved
loop-at-preserved c =
    let e = c.found_at-found.ensures in
    let h = found_ahead c.args.order.now c.loop-at.at (rw e at c.if-found-ne0.false) in
    rw e h.1
