-- `order_reader::pull_at`: four cases of `pull_of`: the order's end, a torn header, a value cut short, a grouping.
-- A whole header lies within the order (`head_there`), so the subtraction and the sum are safe.
use mathlib.Core.Path.{sym, ◌∙◌}
use native.Mathlib.Omega.{arith}
use Rattle.order_reader.proofs.Pulls.{pull_end, pull_torn, head_there, pull_short, pull_whole}
use Rattle.order_reader.proofs.pull_at.Goals as goal

pub returns-then-order-at : goal.returns-then-order-at
returns-then-order-at c = sym (pull_end _ _ c.if-order-at.true)

pub overflow_sub-order-in-Whole : goal.overflow_sub-order-in-Whole
overflow_sub-order-in-Whole c =
    let a = c.args in
    head_there a.order.now a.at (omega arith) c.in-Whole.head
    (sym c.header_at-h.ensures ∙ c.in-Whole.is)

pub returns-then-order-at-2 : goal.returns-then-order-at-2
returns-then-order-at-2 c =
    let header_at = c.header_at-h in
    let a = c.args in
    sym (pull_short a.order.now a.at (omega arith) c.in-Whole.head (sym header_at.ensures ∙ c.in-Whole.is) (omega arith))

pub overflow_add-result : goal.overflow_add-result
overflow_add-result c =
    let header_at = c.header_at-h in
    let a = c.args in
    let w = head_there a.order.now a.at (omega arith) c.in-Whole.head (sym header_at.ensures ∙ c.in-Whole.is) in
    omega arith

pub returns-in-Torn : goal.returns-in-Torn
returns-in-Torn c =
    let a = c.args in
    sym (pull_torn a.order.now a.at (omega arith)
    (sym c.header_at-h.ensures ∙ c.in-Torn.is))

pub returns-else-order-at-2 : goal.returns-else-order-at-2
returns-else-order-at-2 c =
    let header_at = c.header_at-h in
    let a = c.args in
    sym (pull_whole a.order.now a.at (omega arith) c.in-Whole.head (sym header_at.ensures ∙ c.in-Whole.is) (omega arith))
