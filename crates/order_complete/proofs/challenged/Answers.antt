-- `order_complete::challenged`: by the contracts of `fresh_loading` and `with_taken`, one after the other.
use Rattle.order_complete.proofs.challenged.Goals as goal

pub returns : goal.returns
returns c = rw (c.with_taken-running.ensures, c.fresh_loading-load.ensures)
