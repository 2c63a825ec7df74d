-- `walk_records::record_step`: field by field `record_step`, once `least` and `record_run` say n and the running part.
use Rattle.walk_records.proofs.record_step.Goals as goal

pub returns : goal.returns
returns c = rw (c.record_run.ensures, c.least-n.ensures)
