-- `event_replies::lived`: in '5A' or not; `good_name` gives the bound on the name that `lived_in_5a` asks.
use Rattle.event_replies.proofs.Named.{good_name}
use Rattle.event_replies.proofs.lived.Goals as goal

pub lived_in_5a-requires : goal.lived_in_5a-requires
lived_in_5a-requires c =
    let q = c.requires in
    (q.1, good_name _ _ q.0, c.if-load-eq90.true, rw (← c.if-load-eq90.true) q.2)

pub returns-then-load-eq90 : goal.returns-then-load-eq90
returns-then-load-eq90 c = c.lived_in_5a.ensures _ _
