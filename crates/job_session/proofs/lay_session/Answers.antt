-- `job_session::lay_session`: by the writer's number: `refused` has the room as it was; `passed` has the session, for
-- whose front there is room then (`front_fits`). There are at most 45 records.
use Rattle.job_session.proofs.Sessions.{refused, refused_none_written, front_fits, passed, passed_few}
use Rattle.job_session.proofs.lay_session.Goals as goal

pub returns-then-written-ne0 : goal.returns-then-written-ne0
returns-then-written-ne0 c =
    let s = c.args in
    let write = c.write-written in (
      refused s.chip.now s.order.now s.room.now _
          c.front_in-front.ensures write.result
          write.new.room write.ensures c.if-written-ne0.true,
      refused_none_written s.chip.now s.order.now s.room.now _
          c.front_in-front.ensures write.result
          write.new.room write.ensures c.if-written-ne0.true,
    )

pub lay_front-requires : goal.lay_front-requires
lay_front-requires c =
    let s = c.args in
    let write = c.write-written in
    front_fits s.chip.now s.order.now s.room.now _
    c.front_in-front.ensures write.result
    write.new.room write.ensures c.if-written-ne0.false

pub returns : goal.returns
returns c =
    let s = c.args in
    let write = c.write-written in (
      passed s.chip.now s.order.now s.room.now _
          c.front_in-front.ensures
          write.result write.new.room write.ensures c.if-written-ne0.false
          _ c.lay_front.ensures,
      passed_few s.chip.now s.order.now s.room.now _
          c.front_in-front.ensures
          write.result write.new.room write.ensures c.if-written-ne0.false,
    )
