-- `rule_all::grouping_at`: a whole header has a byte and lies within the data, and rule b decides (`a_whole`);
-- a torn one is refused (`a_torn`).
use mathlib.Core.Path.{sym, ◌∙◌}
use native.Mathlib.Omega.{arith}
use lib.ListN.{length, drop}
use Rattle.walk_course.specs.Steps.{on}
use Rattle.walk_course.proofs.Chains.{a_whole, a_torn, header_within, head_sized}
use Rattle.rule_all.proofs.grouping_at.Goals as goal

pub from_b-requires : goal.from_b-requires
from_b-requires c =
    let e = sym c.header_at-header.ensures ∙ c.in-Whole.is in
    (c.requires.0, c.requires.1, head_sized _ _ e, header_within _ _ _ (omega arith) e)

pub returns-in-Whole : goal.returns-in-Whole
returns-in-Whole c =
    let e = sym c.header_at-header.ensures ∙ c.in-Whole.is in
    λ l a k. rw (a_whole c.args.capacity (length c.args.d.now) c.args.p1
    (drop c.args.at c.args.d.now) (on c.args.p l a) _ e)
    (c.from_b.ensures l a (record { steady = k.steady; shut = k.shut; place = k.place _ e }))

pub returns-in-Torn : goal.returns-in-Torn
returns-in-Torn c =
    λ l a k. rw c.failed_by.ensures
    (record {
      comes = sym (a_torn c.args.capacity (length c.args.d.now) c.args.p1
          (drop c.args.at c.args.d.now) (on c.args.p l a)
          (sym c.header_at-header.ensures ∙ c.in-Torn.is));
      ahead = tt;
    })
