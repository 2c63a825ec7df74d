-- `io_playing::begin`: where the read failed, the card is a fresh one all the same (`fresh_keeps`).
use Rattle.theorem_sound.proofs.Sessions.{fresh_keeps}
use Rattle.io_playing.proofs.begin.Goals as goal

pub returns-in-Err-clause-good : goal.returns-in-Err-clause-good
returns-in-Err-clause-good c = rw c.fresh.ensures (fresh_keeps _)
