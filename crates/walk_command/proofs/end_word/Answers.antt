-- `walk_command::end_word`: a mandatory row that is missing decides; else one return a variant of what is open.
use Rattle.walk_command.proofs.end_word.Goals as goal

pub returns-then-mandatory_missing : goal.returns-then-mandatory_missing
returns-then-mandatory_missing c = rw (← c.mandatory_missing.ensures, c.if-mandatory_missing.true)

pub returns-in-Shut : goal.returns-in-Shut
returns-in-Shut c =
    rw (← c.mandatory_missing.ensures, c.if-mandatory_missing.false, c.in-Shut.is)

pub returns-in-Table : goal.returns-in-Table
returns-in-Table c =
    rw (
      ← c.mandatory_missing.ensures,
      c.if-mandatory_missing.false,
      c.in-Table.is,
    )

pub returns-in-Record : goal.returns-in-Record
returns-in-Record c =
    rw (
      ← c.mandatory_missing.ensures,
      c.if-mandatory_missing.false,
      c.in-Record.is,
    )
