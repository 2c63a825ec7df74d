-- `job_register::enter_job`: `no_area`, `refused` and `entered` for the three returns; a session that is laid lies
-- within the room (`fits`), has at most 47 events (`few`) and leaves their lines room (`playable`).
use mathlib.Core.Path.{sym}
use native.Mathlib.Omega.{arith}
use lib.ListN.{length}
use lib.Seq.{length-take-le}
use Rattle.job_register.proofs.Jobs.{room_within, no_area, refused, few, fits, playable, entered, entered_few}
use Rattle.job_register.proofs.enter_job.Goals as goal

pub returns-then-area-ne-AREA_SIZE : goal.returns-then-area-ne-AREA_SIZE
returns-then-area-ne-AREA_SIZE c =
    let s = c.args in (
      rw c.refused_by.ensures (no_area s.chip.now s.order.now s.room.now s.area.now
          s.out.now c.if-area-ne-AREA_SIZE.true),
      rw c.refused_by.ensures (omega arith),
    )

pub slice_bounds-lay_session-end : goal.slice_bounds-lay_session-end
slice_bounds-lay_session-end c =
    let s = c.args in
    rw c.room_for-n.ensures (room_within (length s.room.now) (length s.out.now))

pub slice_bounds-lay_session-end-2 : goal.slice_bounds-lay_session-end-2
slice_bounds-lay_session-end-2 c =
    let s = c.args in
    sym (length-take-le _ s.room.now (rw c.room_for-n.ensures
    (room_within (length s.room.now) (length s.out.now))))

pub returns-then-written-ne0 : goal.returns-then-written-ne0
returns-then-written-ne0 c =
    let s = c.args in
    let laid = c.lay_session-written in
    let n = c.room_for-n in (
      rw c.refused_by-then-written-ne0.ensures (refused s.chip.now s.order.now s.room.now s.area.now
          s.out.now c.if-area-ne-AREA_SIZE.false n.result
          n.ensures laid.result laid.new.room laid.ensures.0 c.if-written-ne0.true),
      rw c.refused_by-then-written-ne0.ensures (omega arith),
    )

pub overflow_add-end : goal.overflow_add-end
overflow_add-end c =
    let s = c.args in
    let laid = c.lay_session-written in
    let n = c.room_for-n in
    let h = few s.chip.now s.order.now s.room.now s.area.now s.out.now
    c.if-area-ne-AREA_SIZE.false n.result n.ensures
    laid.result laid.new.room laid.ensures.0 c.if-written-ne0.false in
    record { fits = omega arith }

pub overflow_mul-end : goal.overflow_mul-end
overflow_mul-end c =
    let s = c.args in
    let laid = c.lay_session-written in
    let n = c.room_for-n in
    let h = few s.chip.now s.order.now s.room.now s.area.now s.out.now
    c.if-area-ne-AREA_SIZE.false n.result n.ensures
    laid.result laid.new.room laid.ensures.0 c.if-written-ne0.false in
    record { fits = omega arith }

pub slice_bounds-play-end : goal.slice_bounds-play-end
slice_bounds-play-end c =
    let s = c.args in
    let laid = c.lay_session-written in
    let n = c.room_for-n in
    fits s.chip.now s.order.now s.room.now s.area.now s.out.now
    c.if-area-ne-AREA_SIZE.false n.result n.ensures
    laid.result laid.new.room laid.ensures.0 c.if-written-ne0.false

pub slice_bounds-play-end-2 : goal.slice_bounds-play-end-2
slice_bounds-play-end-2 c =
    let s = c.args in
    let laid = c.lay_session-written in
    let n = c.room_for-n in
    sym (length-take-le _ _ (fits s.chip.now s.order.now s.room.now s.area.now s.out.now
    c.if-area-ne-AREA_SIZE.false n.result
    n.ensures laid.result laid.new.room laid.ensures.0 c.if-written-ne0.false))

pub play-requires : goal.play-requires
play-requires c =
    let s = c.args in
    let laid = c.lay_session-written in
    let n = c.room_for-n in
    playable s.chip.now s.order.now s.room.now s.area.now s.out.now
    c.if-area-ne-AREA_SIZE.false
    n.result n.ensures laid.result laid.new.room laid.ensures.0
    c.if-written-ne0.false

pub returns : goal.returns
returns c =
    let s = c.args in
    let laid = c.lay_session-written in
    let n = c.room_for-n in (
      entered s.chip.now s.order.now s.room.now s.area.now s.out.now
          c.if-area-ne-AREA_SIZE.false n.result n.ensures laid.result laid.new.room
          laid.ensures.0 c.if-written-ne0.false _
          _ _ c.play.ensures,
      entered_few s.chip.now s.order.now s.room.now s.area.now s.out.now
          c.if-area-ne-AREA_SIZE.false n.result n.ensures laid.result laid.new.room
          laid.ensures.0 c.if-written-ne0.false _
          _ _ c.play.ensures,
    )
