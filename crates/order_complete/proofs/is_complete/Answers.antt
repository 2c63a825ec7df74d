-- `order_complete::is_complete`: the front and then the order are what the buffer holds up to `end` (`laid_behind`);
-- behind that front, to pass is to be complete (`complete_behind`).
use native.Mathlib.Omega.{arith}
use Rattle.order_complete.proofs.Complete.{laid_behind, complete_behind}
use Rattle.order_complete.proofs.is_complete.Goals as goal

pub slice_bounds-passes_behind-end : goal.slice_bounds-passes_behind-end
slice_bounds-passes_behind-end c =
    let o = c.args.order.now in
    let e = laid_behind o c.lay.new.dst
    c.put_bytes.new.dst (omega arith)
    c.lay.ensures c.put_bytes.ensures in
    rw e (omega arith)

pub passes_behind-requires : goal.passes_behind-requires
passes_behind-requires c =
    let o = c.args.order.now in
    let e = laid_behind o c.lay.new.dst
    c.put_bytes.new.dst (omega arith)
    c.lay.ensures c.put_bytes.ensures in
    rw e (omega arith)

pub returns : goal.returns
returns c =
    let put-bytes = c.put_bytes in
    let lay = c.lay in
    let s = c.args in
    let e = laid_behind s.order.now lay.new.dst put-bytes.new.dst (omega arith)
    lay.ensures put-bytes.ensures in
    rw (c.passes_behind.ensures, e) (complete_behind s.capacity s.order.now)
