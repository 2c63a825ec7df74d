-- `sound_card::descriptors_ok`: the test of the count holds by `requires`, so `table_passes` alone decides.
use borrow.Author.Tests.{le-leb}
use Rattle.sound_card.proofs.descriptors_ok.Goals as goal

pub returns : goal.returns
returns c = rw c.table_passes.ensures (simp (le-leb _ _ c.requires))
