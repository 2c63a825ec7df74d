-- `reason_why::why_not`: by `laid_behind` the buffer begins with the three bytes and the order behind them;
-- so `why_behind` has the order from place 3 on, and `why_behind_so` tells the same as `why_not`.
use native.Mathlib.Omega.{arith}
use Rattle.order_complete.proofs.Complete.{laid_behind}
use Rattle.reason_why.proofs.Walks.{why_behind_so}
use Rattle.reason_why.proofs.why_not.Goals as goal

pub slice_bounds-why_behind-end : goal.slice_bounds-why_behind-end
slice_bounds-why_behind-end c =
    let s = c.args in
    let lay = c.lay in
    let put-bytes = c.put_bytes in
    let e = laid_behind s.order.now lay.new.dst put-bytes.new.dst (omega arith) lay.ensures
    put-bytes.ensures in
    rw e (omega arith)

pub why_behind-requires : goal.why_behind-requires
why_behind-requires c =
    let s = c.args in
    let lay = c.lay in
    let put-bytes = c.put_bytes in
    let e = laid_behind s.order.now lay.new.dst put-bytes.new.dst (omega arith) lay.ensures
    put-bytes.ensures in
    rw e (omega arith, omega arith)

pub returns : goal.returns
returns c =
    let s = c.args in
    let lay = c.lay in
    let put-bytes = c.put_bytes in
    let e = laid_behind s.order.now lay.new.dst put-bytes.new.dst (omega arith) lay.ensures
    put-bytes.ensures in
    rw (c.why_behind.ensures, e) (why_behind_so s.capacity s.order.now)
