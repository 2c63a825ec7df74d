-- `walk_step::record_at`: an open record that fits has a place, so `Nowhere` is absurd; the place is the one that the
-- contract names, and written and missing lie within the area.
use Prim.Native.Nat.{ℕ}
use mathlib.Core.Path.{◌≡◌, ap, sym, ◌∙◌, subst}
use native.Mathlib.Omega.{arith}
use Rattle.model.specs.declared.Open.TheVariants.{Record}
use Rattle.model.specs.declared.Spot.TheVariants.{At}
use Rattle.walk_course.specs.Steps.{Within}
use Rattle.walk_records.specs.Records.{record_step}
use Rattle.walk_step.specs.Turns.{Fits}
use Rattle.walk_step.proofs.record_at.Goals as goal

pub record_step-requires : goal.record_step-requires
record_step-requires c =
    let w = subst Within c.in-At.is c.requires.1 in
    let f = subst (Fits (Record c.args.tag c.args.written c.args.missing)) c.in-At.is
    c.requires.2 in
    (omega arith, omega arith)

pub returns-in-At : goal.returns-in-At
returns-in-At c =
    λ base size q.
    let k : At c.in-At.base c.in-At.size ≡ At base size =
    sym c.in-At.is ∙ q in
    let j : c.in-At.base ≡ base = cc in
    c.record_step.ensures ∙ ap (λ (x : ℕ). record_step c.args.p x c.args.tag c.args.written
    c.args.missing c.args.len c.args.at) j

pub returns-in-Nowhere : goal.returns-in-Nowhere
returns-in-Nowhere c =
    absurd (subst (Fits (Record c.args.tag c.args.written c.args.missing))
    c.in-Nowhere.is c.requires.2)
