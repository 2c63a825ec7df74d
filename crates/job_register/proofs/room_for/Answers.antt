-- `job_register::room_for`: the two returns are the two cases of `record_room`.
use borrow.Author.Tests.{lt-ltb, le-ltb}
use Rattle.job_register.specs.Jobs.{line_room}
use Rattle.job_register.proofs.room_for.Goals as goal

pub returns-then-lines-lt-LINE_ROOM : goal.returns-then-lines-lt-LINE_ROOM
returns-then-lines-lt-LINE_ROOM c = rw (lt-ltb _ line_room c.if-lines-lt-LINE_ROOM.true)

pub returns : goal.returns
returns c = rw (le-ltb _ line_room c.if-lines-lt-LINE_ROOM.false)
