-- `event_turn::settled_card`: the two returns are the two cases of `settled_card`, by `locks`; a card that locks has the
-- held bytes that `held_dropped` leaves.
use Rattle.event_turn.proofs.settled_card.Goals as goal

pub returns-then-x : goal.returns-then-x
returns-then-x c = rw (c.if-x.true, c.held_dropped-left.ensures)

pub returns : goal.returns
returns c = rw c.if-x.false
