-- `sound_open::pending_fits`: one return a variant of `Open`; the two open ones are those of the callees.
use Rattle.sound_open.proofs.pending_fits.Goals as goal

pub returns-in-Table : goal.returns-in-Table
returns-in-Table c = rw (c.open_table_fits.ensures, c.in-Table.is)

pub returns-in-Record : goal.returns-in-Record
returns-in-Record c = rw (c.open_record_fits.ensures, c.in-Record.is)
