-- `event_replies::commands`: the five returns settle the tests of `is_command`, in its order.
use borrow.Author.Tests.{eq-eqb, ne_eqb}
use Rattle.event_replies.specs.Lives.{is_command}
use Rattle.event_replies.proofs.commands.Goals as goal

pub returns-then-kind-ne-STORE_DATA : goal.returns-then-kind-ne-STORE_DATA
unfolding is_command
returns-then-kind-ne-STORE_DATA c = rw (ne_eqb _ _ c.if-kind-ne-STORE_DATA.true)

pub returns-then-n-eq0 : goal.returns-then-n-eq0
unfolding is_command
returns-then-n-eq0 c = rw (eq-eqb _ _ c.if-kind-ne-STORE_DATA.false, eq-eqb _ _ c.if-n-eq0.true)

pub returns-then-internal-eq90 : goal.returns-then-internal-eq90
unfolding is_command
returns-then-internal-eq90 c =
    rw (
      eq-eqb _ _ c.if-kind-ne-STORE_DATA.false,
      ne_eqb _ _ c.if-n-eq0.false,
      c.if-life.true,
      eq-eqb _ _ c.if-internal-eq90.true,
    )

pub returns-then-life : goal.returns-then-life
unfolding is_command
returns-then-life c =
    rw (
      eq-eqb _ _ c.if-kind-ne-STORE_DATA.false,
      ne_eqb _ _ c.if-n-eq0.false,
      c.if-life.true,
      ne_eqb _ _ c.if-internal-eq90.false,
    )

pub returns : goal.returns
unfolding is_command
returns c =
    rw (eq-eqb _ _ c.if-kind-ne-STORE_DATA.false, ne_eqb _ _ c.if-n-eq0.false, c.if-life.false)
