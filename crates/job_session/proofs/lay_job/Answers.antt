-- `job_session::lay_job`: by the session's number: `job_refused` has the room as it was; `job_passed` has the chip
-- record and the session, and the chip record has its room then (`chip_fits`).
use native.Mathlib.Nat.{zero-add}
use native.Mathlib.Omega.{arith}
use Rattle.job_session.proofs.Jobs.{job_refused, chip_fits, job_passed}
use Rattle.job_session.proofs.lay_job.Goals as goal

pub returns-then-session-ne0 : goal.returns-then-session-ne0
returns-then-session-ne0 c =
    let s = c.args in
    let laid = c.lay_session-session in (
      job_refused s.chip.now s.order.now s.room.now _ c.least-front.ensures
          laid.result laid.new.room laid.ensures.0 c.if-session-ne0.true,
      omega arith,
    )

pub put_bytes-requires : goal.put_bytes-requires
put_bytes-requires c =
    let s = c.args in
    let laid = c.lay_session-session in
    rw zero-add
    (chip_fits s.chip.now s.order.now s.room.now _ c.least-front.ensures
    laid.result laid.new.room laid.ensures.0 c.if-session-ne0.false)

pub returns : goal.returns
returns c =
    let s = c.args in
    let laid = c.lay_session-session in
    job_passed s.chip.now s.order.now s.room.now _ c.least-front.ensures
    laid.result laid.new.room laid.ensures.0 c.if-session-ne0.false
    _ c.put_bytes.ensures
