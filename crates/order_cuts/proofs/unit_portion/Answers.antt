-- `order_cuts::unit_portion`: the unit fits or not, as `unit_portion` chooses.
use Rattle.order_cuts.specs.Portions.{unit_portion}
use Rattle.lists.specs.Choice.{cases}
use Rattle.order_cuts.proofs.unit_portion.Goals as goal

pub returns-then-n-room : goal.returns-then-n-room
unfolding unit_portion
returns-then-n-room c = search cases

pub returns : goal.returns
unfolding unit_portion
returns c = search cases
