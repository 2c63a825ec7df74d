-- `order_reader::found_at`: each of the three pulls, put in numbers, is `found_at` (`found_so`); `start + len` is
-- within the order (`grouping_inside`), so it does not overflow.
use mathlib.Core.Path.{sym, ◌∙◌}
use native.Mathlib.Omega.{arith}
use Rattle.order_reader.proofs.Pulls.{found_so, grouping_inside}
use Rattle.model.specs.declared.Pulled.TheVariants.{Ended, Broken, Grouping}
use Rattle.order_reader.proofs.found_at.Goals as goal

pub overflow_add-result : goal.overflow_add-result
overflow_add-result c =
    let a = c.args in
    let p = c.in-Grouping in
    let w = grouping_inside a.order.now a.at p.tag p.start p.len
    (sym p.is ∙ c.pull_at-pulled.ensures) in
    omega arith

pub returns-in-Ended : goal.returns-in-Ended
returns-in-Ended c =
    let a = c.args in
    c.nothing_found.ensures ∙ found_so a.order.now a.at Ended
    (sym c.in-Ended.is ∙ c.pull_at-pulled.ensures)

pub returns-in-Broken : goal.returns-in-Broken
returns-in-Broken c =
    let a = c.args in
    c.nothing_found-in-Broken.ensures ∙ found_so a.order.now a.at Broken
    (sym c.in-Broken.is ∙ c.pull_at-pulled.ensures)

pub returns-in-Grouping : goal.returns-in-Grouping
returns-in-Grouping c =
    let a = c.args in
    let p = c.in-Grouping in
    found_so a.order.now a.at (Grouping p.tag p.start p.len)
    (sym p.is ∙ c.pull_at-pulled.ensures)
