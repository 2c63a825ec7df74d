-- `reason_stops::undue_cause`: three cases of `undue_cause`: a row is missing, the records' row, or a row passed.
use mathlib.Core.Path.{sym, ◌∙◌}
use borrow.Author.Tests.{eq-eqb, ne_eqb}
use Rattle.reason_stops.proofs.undue_cause.Goals as goal

pub returns-then-missing_before : goal.returns-then-missing_before
returns-then-missing_before c =
    rw (c.missing_row.ensures, sym c.missing_before.ensures ∙ c.if-missing_before.true)

pub returns-then-row-eq-RECORD_ROW : goal.returns-then-row-eq-RECORD_ROW
returns-then-row-eq-RECORD_ROW c =
    rw (sym c.missing_before.ensures ∙ c.if-missing_before.false, eq-eqb _ _ c.if-row-eq-RECORD_ROW.true)

pub returns : goal.returns
returns c =
    rw (sym c.missing_before.ensures ∙ c.if-missing_before.false, ne_eqb _ _ c.if-row-eq-RECORD_ROW.false)
