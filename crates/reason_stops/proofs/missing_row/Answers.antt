-- `reason_stops::missing_row`: the search from row 1 comes to what it comes to from row n, with 12 - n turns left;
-- it ends at the first row found (`row_found`), or at 12 (`row_none`).
use mathlib.Core.Path.{refl, sym, ◌∙◌}
use native.Mathlib.Omega.{arith}
use Rattle.reason_stops.proofs.Stops.{row_found, row_next, row_none}
use Rattle.reason_stops.proofs.missing_row.Goals as goal

pub loop-n-init : goal.loop-n-init
loop-n-init c = (refl, omega arith, omega arith)

pub returns-then-missing_before : goal.returns-then-missing_before
returns-then-missing_before c =
    let l = c.loop-n in
    sym (l.invariant.0 ∙ row_found _ l.n (omega arith) (sym c.missing_before.ensures ∙ c.if-missing_before.true))

pub loop-n-preserved : goal.loop-n-preserved
loop-n-preserved c =
    let l = c.loop-n in (
      l.invariant.0 ∙ row_next _ l.n (omega arith) (sym c.missing_before.ensures ∙ c.if-missing_before.false),
      omega arith,
      omega arith,
    )

pub returns : goal.returns
returns c =
    let l = c.loop-n in
    sym (l.invariant.0 ∙ row_none _ l.n (omega arith))
