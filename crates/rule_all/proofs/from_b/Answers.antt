-- `rule_all::from_b`: a query ends the walk, by `queried` (`b_query`); of any other tag rule c decides (`b_other`).
use mathlib.Core.Path.{sym, ◌∙◌}
use lib.ListN.{length, drop, length-drop}
use Rattle.walk_course.specs.Steps.{on}
use Rattle.walk_course.proofs.Chains.{b_query, b_other, query_ends, query_stops}
use Rattle.rule_all.proofs.from_b.Goals as goal

pub returns-then-is_query : goal.returns-then-is_query
returns-then-is_query c =
    let b = drop c.args.at c.args.d.now in
    λ l a k. rw (b_query c.args.capacity (length c.args.d.now) c.args.p1 c.args.h
    (drop c.args.at c.args.d.now) (on c.args.p l a)
    (sym c.is_query.ensures ∙ c.if-is_query.true))
    (query_stops c.args.capacity _ c.args.d.now c.args.at l a _ _
    (c.queried.ensures b l a (length-drop c.args.at c.args.d.now))
    (query_ends (length c.args.d.now) c.args.p1 b c.args.h (on c.args.p l a)))

pub returns : goal.returns
returns c =
    λ l a k. rw (b_other c.args.capacity (length c.args.d.now) c.args.p1 c.args.h
    (drop c.args.at c.args.d.now) (on c.args.p l a)
    (sym c.is_query.ensures ∙ c.if-is_query.false)) (c.from_c.ensures l a k)
