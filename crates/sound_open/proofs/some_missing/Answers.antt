-- `sound_open::some_missing`: one return a variant of `Open`: each reads its own `missing`.
use Rattle.sound_open.proofs.some_missing.Goals as goal

pub returns-in-Table : goal.returns-in-Table
returns-in-Table c = rw c.in-Table.is

pub returns-in-Record : goal.returns-in-Record
returns-in-Record c = rw c.in-Record.is
