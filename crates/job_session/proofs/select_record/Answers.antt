-- `job_session::select_record`: the event's front bytes laid over 260 zeros are its record (`record_laid`).
use mathlib.Core.Path.{◌∙◌}
use native.Mathlib.Omega.{arith}
use borrow.Author.Rules.{rules}
use Rattle.theorem_cutting.specs.Job.{select_event, select_record}
use Rattle.job_session.proofs.Laid.{record_laid}
use Rattle.job_session.proofs.select_record.Goals as goal

pub returns : goal.returns
unfolding select_record
returns c = (
  c.lay.ensures ∙ record_laid select_event (omega arith),
  search rules,
)
