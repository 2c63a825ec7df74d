-- `register_entries::held_as`: the two returns are the two cases of `held_as`; the first is what `held_dropped` leaves.
use Rattle.register_entries.proofs.held_as.Goals as goal

pub returns-then-locks : goal.returns-then-locks
returns-then-locks c = rw (c.held_dropped.ensures, c.if-locks.true)
