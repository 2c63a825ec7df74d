-- `sound_open::value_ok`: the three returns are `open_part`'s conjuncts in order; `some_missing` is what is left.
use Rattle.sound_open.proofs.value_ok.Goals as goal

pub returns-then-pending_fits : goal.returns-then-pending_fits
returns-then-pending_fits c =
    let p = c in
    let o = p in
    rw c.some_missing.ensures
    (simp (← o.open_ok.ensures, p.if-open_ok.true, ← p.pending_fits.ensures, c.if-pending_fits.true))

pub returns-else-pending_fits : goal.returns-else-pending_fits
returns-else-pending_fits c =
    let p = c in
    let o = p in
    simp (← o.open_ok.ensures, p.if-open_ok.true, ← p.pending_fits.ensures, c.if-pending_fits.false)

pub returns-else-open_ok : goal.returns-else-open_ok
returns-else-open_ok c = simp (← c.open_ok.ensures, c.if-open_ok.false)
