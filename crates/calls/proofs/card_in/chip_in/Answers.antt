-- `calls::chip_in`: the fields of `chip_of`, each at its place.
use Rattle.model.specs.Stored.{chip_of}
use Rattle.calls.proofs.card_in.chip_in.Goals as goal

pub returns : goal.returns
unfolding chip_of
returns c = simp (c.array.ensures, c.array-2.ensures, c.array-3.ensures)
