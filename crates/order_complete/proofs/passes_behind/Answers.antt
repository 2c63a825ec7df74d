-- `order_complete::passes_behind`: the challenged card is steady, as the walk asks; each of its three ends is told
-- by the match, and `walked_so` says what it means for `passes_behind`.
use mathlib.Core.Path.{ap, sym, ◌∙◌}
use native.Mathlib.Omega.{arith}
use Rattle.walk_command.specs.declared.End.{End}
use Rattle.walk_command.specs.Ends.{end_of}
use Rattle.walk_course.specs.Steps.{state_of}
use Rattle.order_complete.proofs.Complete.{steady_start, walked_so}
use Rattle.order_complete.proofs.passes_behind.Goals as goal

pub walked-s-requires : goal.walked-s-requires
walked-s-requires c = (omega arith, steady_start _ c.challenged-load.ensures)

pub returns-in-Done : goal.returns-in-Done
returns-in-Done c =
    let s = c.args in
    let t = state_of c.walked-s.result.load c.walked-s.new.area in
    let e = sym (ap (λ (x : End). end_of x t) c.in-Done.is) ∙ c.walked-s.ensures.ends in
    c.is_ready.ensures _ ∙ walked_so s.capacity s.d.now _ _ c.challenged-load.ensures e

pub returns-in-Asked : goal.returns-in-Asked
returns-in-Asked c =
    let s = c.args in
    let t = state_of c.walked-s.result.load c.walked-s.new.area in
    let e = sym (ap (λ (x : End). end_of x t) c.in-Asked.is) ∙ c.walked-s.ensures.ends in
    walked_so s.capacity s.d.now _ _ c.challenged-load.ensures e

pub returns-in-Failed : goal.returns-in-Failed
returns-in-Failed c =
    let s = c.args in
    let t = state_of c.walked-s.result.load c.walked-s.new.area in
    let e = sym (ap (λ (x : End). end_of x t) c.in-Failed.is) ∙ c.walked-s.ensures.ends in
    walked_so s.capacity s.d.now _ _ c.challenged-load.ensures e
