-- `register_entries::shut_as`: the two returns are the two cases of `shut_as`; the first is what `with_open` makes.
use Rattle.register_entries.proofs.shut_as.Goals as goal

pub returns-then-locks : goal.returns-then-locks
returns-then-locks c = rw (c.with_open.ensures, c.if-locks.true)
