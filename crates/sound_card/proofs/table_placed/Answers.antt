-- `sound_card::table_placed`: each `if` is one alternative of `table_placed`; the earlier ones are false by then.
use borrow.Author.Tests.{eq-eqb, ne_eqb}
use Rattle.sound_card.proofs.table_placed.Goals as goal

pub returns-then-l-eq0 : goal.returns-then-l-eq0
returns-then-l-eq0 c = rw (eq-eqb _ _ c.if-l-eq0.true)

pub returns-then-is_taken : goal.returns-then-is_taken
returns-then-is_taken c =
    let n = ne_eqb _ _ c.if-l-eq0.false in
    simp (n, ← c.is_taken.ensures, c.if-is_taken.true)

pub returns-then-table_open : goal.returns-then-table_open
returns-then-table_open c =
    let t = c in
    let n = ne_eqb _ _ t.if-l-eq0.false in
    simp (n, ← t.is_taken.ensures, c.if-is_taken.false, ← c.table_open.ensures, c.if-table_open.true)

pub returns-then-l-eq90 : goal.returns-then-l-eq90
returns-then-l-eq90 c =
    let o = c in
    let t = o in
    let n = ne_eqb _ _ t.if-l-eq0.false in
    simp (
      n,
      ← t.is_taken.ensures,
      o.if-is_taken.false,
      ← o.table_open.ensures,
      c.if-table_open.false,
      eq-eqb _ _ c.if-l-eq90.true,
    )

pub returns : goal.returns
returns c =
    let o = c in
    let t = o in
    let n = ne_eqb _ _ t.if-l-eq0.false in
    simp (
      n,
      ← t.is_taken.ensures,
      o.if-is_taken.false,
      ← o.table_open.ensures,
      c.if-table_open.false,
      ne_eqb _ _ c.if-l-eq90.false,
    )
