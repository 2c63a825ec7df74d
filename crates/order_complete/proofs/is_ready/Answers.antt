-- `order_complete::is_ready`: with a mandatory row missing it is not ready (`missing_not`); else it is ready exactly
-- where nothing is open (`ready_so`).
use mathlib.Core.Path.{sym, ◌∙◌}
use Rattle.order_complete.proofs.Complete.{missing_not, ready_so}
use Rattle.order_complete.proofs.is_ready.Goals as goal

pub returns-then-mandatory_missing : goal.returns-then-mandatory_missing
returns-then-mandatory_missing c = λ a. missing_not c.args.l a
    (sym c.mandatory_missing.ensures ∙ c.if-mandatory_missing.true)

pub returns : goal.returns
returns c =
    let mandatory-missing = c.mandatory_missing in
    let args = c.args in
    λ a. ready_so args.l a c.is_shut.result (sym mandatory-missing.ensures ∙ c.if-mandatory_missing.false)
    c.is_shut.ensures
