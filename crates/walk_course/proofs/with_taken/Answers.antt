-- `walk_course::with_taken`: `with_row` says the rows; the other fields stay, as in `running_taken`.
use Rattle.walk_course.proofs.with_taken.Goals as goal

pub returns : goal.returns
returns c = rw c.with_row.ensures
