-- `sound_open::open_table_fits`: row 5 taken makes `pending_fits` false; else `table_fits` is all that is left of it.
use Rattle.sound_open.proofs.open_table_fits.Goals as goal

pub returns-then-is_taken : goal.returns-then-is_taken
returns-then-is_taken c = simp (← c.is_taken.ensures, c.if-is_taken.true)

pub returns : goal.returns
returns c = rw c.table_fits.ensures (simp (← c.is_taken.ensures, c.if-is_taken.false))
