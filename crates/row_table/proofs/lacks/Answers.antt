-- `row_table::lacks`: the three cases of `lacking`: mandatory and taken, mandatory and not, not mandatory.
use Rattle.row_table.specs.Lacking.{lacking}
use Rattle.row_table.proofs.lacks.Goals as goal

pub returns-then-is_taken : goal.returns-then-is_taken
unfolding lacking
returns-then-is_taken c =
    simp (
      ← c.row_at-row.ensures,
      ← c.is_taken.ensures,
      c.if-is_taken.true,
      c.if-row.true,
    )

pub returns-then-row : goal.returns-then-row
unfolding lacking
returns-then-row c =
    simp (
      ← c.row_at-row.ensures,
      ← c.is_taken.ensures,
      c.if-is_taken.false,
      c.if-row.true,
    )

pub returns : goal.returns
unfolding lacking
returns c = simp (← c.row_at-row.ensures, c.if-row.false)
