-- `register_entries::locked_as`: the two returns are the two cases of `locked_as`.
use Rattle.register_entries.proofs.locked_as.Goals as goal

pub returns-then-locks : goal.returns-then-locks
returns-then-locks c = rw c.if-locks.true
