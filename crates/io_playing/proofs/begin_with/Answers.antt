-- `io_playing::begin_with`: a fresh card is good with a clear area, whatever was read of the chip record (`fresh_keeps`).
use Rattle.theorem_sound.proofs.Sessions.{fresh_keeps}
use Rattle.io_playing.proofs.begin_with.Goals as goal

pub returns : goal.returns
returns c = rw c.fresh-made.ensures (fresh_keeps _)
