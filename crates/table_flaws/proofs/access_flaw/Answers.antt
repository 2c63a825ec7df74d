-- `table_flaws::access_flaw`: the five returns are the cases of `access_flaw`: the first that fails, or `later`.
use Rattle.table_flaws.proofs.access_flaw.Goals as goal

pub returns-then-access_ok-4 : goal.returns-then-access_ok-4
returns-then-access_ok-4 c =
    simp (
      ← c.access_ok.ensures,
      c.if-access_ok.true,
      ← c.access_ok-then-access_ok.ensures,
      c.if-access_ok-2.true,
      ← c.access_ok-then-access_ok-2.ensures,
      c.if-access_ok-3.true,
      ← c.access_ok-then-access_ok-3.ensures,
      c.if-access_ok-4.true,
    )

pub returns-then-access_ok-3 : goal.returns-then-access_ok-3
returns-then-access_ok-3 c =
    simp (
      ← c.access_ok.ensures,
      c.if-access_ok.true,
      ← c.access_ok-then-access_ok.ensures,
      c.if-access_ok-2.true,
      ← c.access_ok-then-access_ok-2.ensures,
      c.if-access_ok-3.true,
      ← c.access_ok-then-access_ok-3.ensures,
      c.if-access_ok-4.false,
    )

pub returns-then-access_ok-2 : goal.returns-then-access_ok-2
returns-then-access_ok-2 c =
    simp (
      ← c.access_ok.ensures,
      c.if-access_ok.true,
      ← c.access_ok-then-access_ok.ensures,
      c.if-access_ok-2.true,
      ← c.access_ok-then-access_ok-2.ensures,
      c.if-access_ok-3.false,
    )

pub returns-then-access_ok : goal.returns-then-access_ok
returns-then-access_ok c =
    simp (
      ← c.access_ok.ensures,
      c.if-access_ok.true,
      ← c.access_ok-then-access_ok.ensures,
      c.if-access_ok-2.false,
    )

pub returns : goal.returns
returns c = simp (← c.access_ok.ensures, c.if-access_ok.false)
