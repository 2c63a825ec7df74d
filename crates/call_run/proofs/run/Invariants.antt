-- `call_run::run`: `Going` says that i of k records have been played and what they leave; a refused session has none
-- to play. The card stays good (`still_good`), and at the end `all_run` has played all k.
use Prim.Native.Nat.{◌-◌}
use Rattle.call_run.proofs.Running.{Going}
use Rattle.call_run.proofs.run.Given as goal

abbrev pub invariant-loop-i : goal.invariant-loop-i
invariant-loop-i l =
    Going l.initial.c l.initial.area l.session l.initial.words l.number l.k l.i l.c l.area l.words l.answer

abbrev pub decreases-loop-i : goal.decreases-loop-i
decreases-loop-i l =
    l.k - l.i
