-- `sound_open::open_ok`: one return a variant of `Open`; both open ones are what `is_07_with_5a` says.
use Rattle.sound_open.proofs.open_ok.Goals as goal

pub returns-in-Table : goal.returns-in-Table
returns-in-Table c = rw (c.is_07_with_5a.ensures, c.in-Table.is)

pub returns-in-Record : goal.returns-in-Record
returns-in-Record c = rw (c.is_07_with_5a-in-Record.ensures, c.in-Record.is)
