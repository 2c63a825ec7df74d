-- `job_text::lay`: nothing given changes nothing (`over_none`); a byte past the end is not laid (`over_past`);
-- one with room is set at n (`over_one`), and its line likewise.
use mathlib.Core.Path.{sym}
use native.Mathlib.Omega.{arith}
use Rattle.lists.specs.Over.{over_none, over_one}
use Rattle.job_text.proofs.Laying.{over_past}
use Rattle.job_text.proofs.lay.Goals as goal

pub returns-then-out-n : goal.returns-then-out-n
returns-then-out-n c =
    let a = c.args in
    rw c.in-Some.is (
      omega arith,
      sym (over_past _ a.out.now a.n (omega arith)),
      sym (over_past _ a.lines.now a.n (omega arith)),
    )

pub returns-in-None : goal.returns-in-None
returns-in-None c = rw c.in-None.is (omega arith, sym (over_none _ _), sym (over_none _ _))

pub returns-else-out-n : goal.returns-else-out-n
returns-else-out-n c = rw c.in-Some.is (omega arith, sym (over_one _ _ _), sym (over_one _ _ _))
