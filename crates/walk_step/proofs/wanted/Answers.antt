-- `walk_step::wanted`: one return a variant of `Open`: the next header's tag, none, or the open record's.
use mathlib.Core.Path.{◌∙◌}
use Rattle.walk_step.proofs.wanted.Goals as goal

pub returns-in-Shut : goal.returns-in-Shut
returns-in-Shut c = c.head_tag.ensures ∙ rw c.in-Shut.is

pub returns-in-Table : goal.returns-in-Table
returns-in-Table c = rw c.in-Table.is

pub returns-in-Record : goal.returns-in-Record
returns-in-Record c = rw c.in-Record.is
