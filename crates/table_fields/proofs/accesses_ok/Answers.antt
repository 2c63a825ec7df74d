-- `table_fields::accesses_ok`: the four returns are `accesses_ok`'s conjuncts in order: a condition and its key each.
use mathlib.Core.Path.{sym, ◌∙◌}
use Rattle.table_fields.proofs.accesses_ok.Goals as goal

pub returns-then-access_ok-3 : goal.returns-then-access_ok-3
returns-then-access_ok-3 c =
    let b = c in
    rw (
      sym b.access_ok.ensures ∙ b.if-access_ok.true,
      sym c.access_ok-then-access_ok.ensures ∙ c.if-access_ok-2.true,
      sym c.access_ok-then-access_ok-2.ensures ∙ c.if-access_ok-3.true,
    )
    c.access_ok-then-access_ok-3.ensures

pub returns-else-access_ok-3 : goal.returns-else-access_ok-3
returns-else-access_ok-3 c =
    simp (
      ← c.access_ok.ensures,
      c.if-access_ok.true,
      ← c.access_ok-then-access_ok.ensures,
      c.if-access_ok-2.true,
      ← c.access_ok-then-access_ok-2.ensures,
      c.if-access_ok-3.false,
    )

pub returns-else-access_ok-2 : goal.returns-else-access_ok-2
returns-else-access_ok-2 c =
    simp (
      ← c.access_ok.ensures,
      c.if-access_ok.true,
      ← c.access_ok-then-access_ok.ensures,
      c.if-access_ok-2.false,
    )

pub returns-else-access_ok : goal.returns-else-access_ok
returns-else-access_ok c = simp (← c.access_ok.ensures, c.if-access_ok.false)
