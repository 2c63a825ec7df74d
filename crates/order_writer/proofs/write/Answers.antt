-- `order_writer::write`: the four returns are the choices of `write_of` (`refused`, `too_long`, `is_cut`,
-- `not_complete`); a complete order is cuttable, and into 45 records at most (`records_few`).
use mathlib.Core.Path.{sym, ◌∙◌}
use native.Mathlib.Omega.{arith}
use lib.ListN.{length}
use Rattle.order_writer.proofs.Numbers.{refused, too_long, not_complete, is_cut}
use Rattle.order_complete.proofs.Complete.{complete_cuttable}
use Rattle.theorem_cutting.proofs.Commands.{records_few}
use Rattle.order_writer.proofs.write.Goals as goal

pub returns-then-made-ne0 : goal.returns-then-made-ne0
returns-then-made-ne0 c =
    let s = c.args in
    rw (refused s.chip.now s.order.now (length s.room.now) _ c.fresh-made.ensures
    c.if-made-ne0.true) (c.refused_by.ensures s.room.now)

pub returns-then-order-gt-ORDER_LIMIT : goal.returns-then-order-gt-ORDER_LIMIT
returns-then-order-gt-ORDER_LIMIT c =
    let s = c.args in
    rw (too_long s.chip.now s.order.now (length s.room.now) _ c.fresh-made.ensures
    c.if-made-ne0.false c.if-order-gt-ORDER_LIMIT.true)
    (c.refused_by-then-order-gt-ORDER_LIMIT.ensures s.room.now)

pub cut_into-requires : goal.cut_into-requires
cut_into-requires c =
    let s = c.args in
    let e = sym c.is_complete.ensures ∙ c.if-is_complete.true in
    (complete_cuttable _ s.order.now e, records_few _ s.order.now e (omega arith))

pub returns-then-is_complete : goal.returns-then-is_complete
returns-then-is_complete c =
    let s = c.args in
    let e = sym c.is_complete.ensures ∙ c.if-is_complete.true in
    rw (is_cut s.chip.now s.order.now (length s.room.now) _ c.fresh-made.ensures
    c.if-made-ne0.false (omega arith) e)
    c.cut_into.ensures

pub returns : goal.returns
returns c =
    let s = c.args in
    let e = sym c.is_complete.ensures ∙ c.if-is_complete.false in
    rw (not_complete s.chip.now s.order.now (length s.room.now) _ c.fresh-made.ensures
    c.if-made-ne0.false (omega arith) e)
    (c.refused_by-2.ensures s.room.now)
