-- `job_session::lay_front`: the installation has 260 bytes, so the two records stand end to end (`over_then`).
use mathlib.Core.Path.{sym, ◌∙◌}
use native.Mathlib.Nat.{zero-add}
use Rattle.lists.specs.Over.{over_then}
use Rattle.theorem_cutting.specs.Job.{install_record, select_record}
use Rattle.job_session.proofs.Sessions.{install_length}
use Rattle.job_session.proofs.lay_front.Goals as goal

pub returns : goal.returns
returns c =
    let two = c.put_bytes-2 in
    let one = c.put_bytes in
    let install = c.install_record-install in
    let select = c.select_record-select in
    rw (two.ensures, one.ensures, install.ensures.0, select.ensures.0)
    (sym (over_then install_record select_record
    c.args.room.now 0 260 (zero-add _ ∙ install_length)))
