-- `sound_card::load_ok`: the three returns are `load_part`'s conjuncts in order; `secrets_ok` is what is left.
use Rattle.sound_card.proofs.load_ok.Goals as goal

pub returns-then-table_placed : goal.returns-then-table_placed
returns-then-table_placed c =
    let p = c in
    let r = p in
    rw c.secrets_ok.ensures
    (simp (← r.rows_ok.ensures, p.if-rows_ok.true, ← p.table_placed.ensures, c.if-table_placed.true))

pub returns-else-table_placed : goal.returns-else-table_placed
returns-else-table_placed c =
    let p = c in
    let r = p in
    simp (← r.rows_ok.ensures, p.if-rows_ok.true, ← p.table_placed.ensures, c.if-table_placed.false)

pub returns-else-rows_ok : goal.returns-else-rows_ok
returns-else-rows_ok c = simp (← c.rows_ok.ensures, c.if-rows_ok.false)
