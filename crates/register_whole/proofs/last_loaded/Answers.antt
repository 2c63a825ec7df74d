-- `register_whole::last_loaded`: what `reads` answers is `last_loaded` by definition; 1 ≤ n, so there is a last line.
use Rattle.register_whole.specs.Whole.{last_loaded}
use Rattle.register_whole.proofs.last_loaded.Goals as goal

pub returns : goal.returns
unfolding last_loaded
returns c = c.reads.ensures
