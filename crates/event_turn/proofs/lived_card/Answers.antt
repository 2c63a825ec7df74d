-- `event_turn::lived_card`: the two cases of `lived_as`, by `locks`; a card that locks has its open value shut, and the
-- held bytes that `held_dropped` leaves.
use Rattle.event_turn.proofs.lived_card.Goals as goal

pub returns-then-x : goal.returns-then-x
returns-then-x c =
    rw (c.if-x.true, c.with_open-running.ensures, c.held_dropped-left.ensures)

pub returns : goal.returns
returns c = rw c.if-x.false
