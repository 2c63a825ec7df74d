-- `rule_all::from_c`: in 'A5' it is refused (`c_refuses`);
-- else the state becomes '5A', which is as sound (`stands_personal`).
use mathlib.Core.Path.{refl, sym}
use lib.ListN.{drop}
use Rattle.walk_course.specs.Steps.{on}
use Rattle.walk_course.proofs.Chains.{c_refuses, c_moves}
use Rattle.rule_all.proofs.Facts.{stands_personal}
use Rattle.rule_all.proofs.from_c.Goals as goal

pub returns-then-p-eq165 : goal.returns-then-p-eq165
returns-then-p-eq165 c =
    λ l a k. rw c.failed_by.ensures
    (record {
      comes = sym (c_refuses c.args.capacity c.args.h (drop c.args.at c.args.d.now)
          (on c.args.p l a) c.if-p-eq165.true);
      ahead = tt;
    })

pub returns : goal.returns
returns c =
    λ l a k. rw (c_moves c.args.capacity c.args.h (drop c.args.at c.args.d.now)
    (on c.args.p l a) c.if-p-eq165.false) (c.from_d.ensures l a refl (stands_personal _ _ _ l a k))
