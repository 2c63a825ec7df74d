-- `register_entries::span`: the three cases of `span_of`: refused by a number, a command, or no command.
use borrow.Author.Tests.{eq-eqb, ne_eqb}
use Rattle.register_entries.specs.Owned.{span_of}
use Rattle.register_entries.proofs.span.Goals as goal

pub returns-then-number-ne0 : goal.returns-then-number-ne0
unfolding span_of
returns-then-number-ne0 c = rw (ne_eqb _ _ c.if-number-ne0.true)

pub returns-then-commands : goal.returns-then-commands
unfolding span_of
returns-then-commands c =
    rw (eq-eqb _ _ c.if-number-ne0.false, ← c.commands.ensures, c.if-commands.true)

pub returns : goal.returns
unfolding span_of
returns c =
    rw (eq-eqb _ _ c.if-number-ne0.false, ← c.commands.ensures, c.if-commands.false)
