-- `order_writer::cut_into`: the count is the number of records (`length_written`), at most 45, so its product does
-- not overflow; `no_room` and `has_room` are the two choices of `cut_for`.
use mathlib.Core.Path.{refl}
use native.Mathlib.Omega.{arith}
use lib.ListN.{length}
use Rattle.order_writer.proofs.Numbers.{no_room, has_room}
use Rattle.model.proofs.Laws.{length_written}
use Rattle.order_writer.proofs.cut_into.Goals as goal

pub overflow_add-count : goal.overflow_add-count
overflow_add-count c =
    let n = length_written c.args.order.now in
    rw c.command_count-count.ensures (omega arith)

pub overflow_mul-count : goal.overflow_mul-count
overflow_mul-count c =
    let n = length_written c.args.order.now in
    rw c.command_count-count.ensures (omega arith)

pub returns-then-room-count : goal.returns-then-room-count
returns-then-room-count c =
    let n = length_written c.args.order.now in
    let e = c.command_count-count.ensures in
    rw (no_room c.args.order.now (length c.args.room.now) (omega arith))
    (c.refused_by.ensures c.args.room.now)

pub lay_records-requires : goal.lay_records-requires
lay_records-requires c =
    let n = length_written c.args.order.now in
    let e = c.command_count-count.ensures in
    (c.requires.0, omega arith)

pub returns : goal.returns
returns c =
    let n = length_written c.args.order.now in
    let e = c.command_count-count.ensures in
    rw (has_room c.args.order.now (length c.args.room.now) (omega arith))
    (record { number = refl; count = omega arith; room = c.lay_records.ensures })
