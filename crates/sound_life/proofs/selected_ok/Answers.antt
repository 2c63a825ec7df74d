-- `sound_life::selected_ok`: at '07' `selected_ok` is `sel` or not '5A', a return each; elsewhere it is `!sel`.
use borrow.Author.Tests.{eq-eqb}
use Rattle.sound_life.proofs.selected_ok.Goals as goal

pub returns-then-sel : goal.returns-then-sel
returns-then-sel c = simp (eq-eqb _ _ c.if-g-eq7.true, c.if-sel.true)

pub returns-then-g-eq7 : goal.returns-then-g-eq7
returns-then-g-eq7 c = simp (eq-eqb _ _ c.if-g-eq7.true, c.if-sel.false)
