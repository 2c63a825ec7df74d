-- `order_cuts::portion_at`: inside a value by `step_inside`; else by the header, torn or whole, and `step_head`.
-- A whole header lies within what is left (`whole_within`).
use mathlib.Core.Path.{sym, ◌∙◌}
use native.Mathlib.Omega.{arith}
use lib.ListN.{drop, length-drop}
use Rattle.order_cuts.proofs.Portioning.{step_inside, step_head}
use Rattle.header.proofs.Units.{whole_within}
use Rattle.model.specs.declared.Header.TheVariants.{Torn, Whole}
use Rattle.order_cuts.proofs.portion_at.Goals as goal

pub returns-then-inside-gt0 : goal.returns-then-inside-gt0
returns-then-inside-gt0 c =
    let a = c.args in
    rw (c.least-taken.ensures, c.least.ensures)
    (sym (step_inside a.order.now a.at a.inside a.room (omega arith)))

pub grouping_portion-requires : goal.grouping_portion-requires
grouping_portion-requires c =
    let a = c.args in
    rw length-drop at (whole_within (drop a.at a.order.now) c.in-Whole.head
    (sym c.header_at-h.ensures ∙ c.in-Whole.is)).1

pub returns-in-Torn : goal.returns-in-Torn
returns-in-Torn c =
    let header_at = c.header_at-h in
    let a = c.args in
    rw c.unit_portion.ensures
    (sym (step_head a.order.now a.at a.inside a.room (omega arith) Torn
    (sym header_at.ensures ∙ c.in-Torn.is)))

pub returns-in-Whole : goal.returns-in-Whole
returns-in-Whole c =
    let header_at = c.header_at-h in
    let a = c.args in
    rw c.grouping_portion.ensures
    (sym (step_head a.order.now a.at a.inside a.room (omega arith) (Whole c.in-Whole.head)
    (sym header_at.ensures ∙ c.in-Whole.is)))
