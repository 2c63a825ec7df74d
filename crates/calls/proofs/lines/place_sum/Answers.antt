-- `calls::place_sum`: the whole sum is what is summed up and the sum of what is behind; i turns sum up to i
-- times 3182400.
use Rattle.std.proofs.Common.{◌+◌, ◌≤◌, ◌<◌, length, arith, rules}
use Rattle.calls.proofs.Places.{sum_first, sum_more, sum_end}
use Rattle.calls.proofs.lines.place_sum.Goals as goal

pub loop-i-init : goal.loop-i-init
loop-i-init c = (search rules, sum_first c.args.bytes.now)

pub loop-i-preserved : goal.loop-i-preserved
loop-i-preserved c =
    let l = c.loop-i in
    let s = c.args.bytes.now in
    let h : l.i < length s = search rules in
    let m = sum_more s l.i h in
    let w = c.weight-sum.ensures.0 in
    let e = l.invariant.1 in
    (search rules, omega (arith, m, w, e))

pub returns : goal.returns
returns c =
    let l = c.loop-i in
    let s = c.args.bytes.now in
    let h : length s ≤ l.i = search rules in
    let z = sum_end s l.i (l.i + 1) h in
    let e = l.invariant.1 in
    omega (arith, z, e)
