-- `rule_content::startup_of`: the seven bytes are laid whole; the first becomes the capacity (`first_set`),
-- or stays where it is no more than that (`first_stays`).
use Prim.Native.Nat.{ℕ}
use mathlib.Core.Path.{ap, ◌∙◌}
use mathlib.Core.List.{List}
use native.Mathlib.Omega.{arith}
use lib.ListN.{set}
use Rattle.lists.specs.Over.{over_padded}
use Rattle.rule_content.proofs.Facts.{first_stays, first_set}
use Rattle.rule_content.proofs.startup_of.Goals as goal

pub returns-then-capacity-v : goal.returns-then-capacity-v
returns-then-capacity-v c =
    let y = c in
    let s = y in
    let e = y.lay.ensures ∙ over_padded 7 _ (omega (arith, s.requires)) in
    ap (λ (x : List ℕ). set x 0 s.args.capacity) e ∙ first_set _ s.args.v.now s.requires c.if-capacity-v.true

pub returns : goal.returns
returns c =
    let y = c in
    let s = y in
    y.lay.ensures ∙ over_padded 7 _ (omega (arith, s.requires)) ∙ first_stays _ s.args.v.now s.requires
    c.if-capacity-v.false
