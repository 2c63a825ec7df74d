-- `job_session::install_record`: the event's front bytes laid over 260 zeros are its record (`record_laid`).
use mathlib.Core.Path.{◌∙◌}
use native.Mathlib.Omega.{arith}
use borrow.Author.Rules.{rules}
use Rattle.theorem_cutting.specs.Job.{install_event, install_record}
use Rattle.job_session.proofs.Laid.{record_laid}
use Rattle.job_session.proofs.install_record.Goals as goal

pub returns : goal.returns
unfolding install_record
returns c = (
  c.lay.ensures ∙ record_laid install_event (omega arith),
  search rules,
)
