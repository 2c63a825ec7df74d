-- `reason_why::why_behind`: `walked_tells` reads the end of the card's walk as the answer: done, asked or failed;
-- it also gives that the place lies where `at_end` and `stop_at` ask it to be.
use mathlib.Core.Path.{ap, sym, ◌∙◌}
use native.Mathlib.Omega.{arith}
use Rattle.order_complete.proofs.Complete.{steady_start}
use Rattle.reason_why.specs.declared.Why.TheVariants.{Stops}
use Rattle.reason_why.proofs.Walks.{walked_tells}
use Rattle.reason_why.proofs.why_behind.Goals as goal

pub walked-s-requires : goal.walked-s-requires
walked-s-requires c = (omega arith, steady_start _ c.challenged-load.ensures)

pub overflow_sub-s : goal.overflow_sub-s
overflow_sub-s c =
    let q = walked_tells c.args.capacity c.args.d.now _ c.challenged-load.ensures _ _ _ _
    c.walked-s.ensures _ c.in-Done.is in
    omega (arith, q.0)

pub stop_at-requires : goal.stop_at-requires
stop_at-requires c =
    let q = walked_tells c.args.capacity c.args.d.now _ c.challenged-load.ensures _ _ _ _
    c.walked-s.ensures _ c.in-Asked.is in
    (c.walked-s.ensures.steady.inside.count, q.0, q.1, c.requires.1)

pub stop_at-requires-in-Failed : goal.stop_at-requires-in-Failed
stop_at-requires-in-Failed c =
    let q = walked_tells c.args.capacity c.args.d.now _ c.challenged-load.ensures _ _ _ _
    c.walked-s.ensures _ c.in-Failed.is in
    (c.walked-s.ensures.steady.inside.count, q.0, q.1, c.requires.1)

pub returns-in-Done : goal.returns-in-Done
returns-in-Done c =
    let q = walked_tells c.args.capacity c.args.d.now _ c.challenged-load.ensures _ _ _ _
    c.walked-s.ensures _ c.in-Done.is in
    c.at_end.ensures _ ∙ sym q.1

pub returns-in-Asked : goal.returns-in-Asked
returns-in-Asked c =
    let q = walked_tells c.args.capacity c.args.d.now _ c.challenged-load.ensures _ _ _ _
    c.walked-s.ensures _ c.in-Asked.is in
    ap Stops c.stop_at.ensures ∙ sym q.2

pub returns-in-Failed : goal.returns-in-Failed
returns-in-Failed c =
    let q = walked_tells c.args.capacity c.args.d.now _ c.challenged-load.ensures _ _ _ _
    c.walked-s.ensures _ c.in-Failed.is in
    ap Stops c.stop_at-in-Failed.ensures ∙ sym q.2
