-- `life_names::tail_is`: past the end there is no tail (`no_tail`), and `fixed` is not empty; else the slice to the
-- end is all that is left (`take_all`).
use Prim.Native.Nat.{◌-◌}
use mathlib.Core.Path.{sym, ◌∙◌}
use native.Mathlib.Omega.{arith}
use lib.ListN.{length, drop, length-drop}
use Rattle.life_names.proofs.Install.{no_tail}
use lib.Seq.{take_all}
use Rattle.life_names.proofs.tail_is.Goals as goal

pub returns-then-d-at : goal.returns-then-d-at
returns-then-d-at c =
    let s = c in
    sym (no_tail s.args.d.now s.args.fixed.now s.args.at c.if-d-at.true s.requires)

pub returns : goal.returns
returns c =
    let s = c in
    let e = take_all (length s.args.d.now - s.args.at) (drop s.args.at s.args.d.now)
    (simp length-drop (omega arith)) in
    c.same_bytes.ensures ∙ rw e
