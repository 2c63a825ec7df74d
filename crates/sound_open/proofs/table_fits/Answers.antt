-- `sound_open::table_fits`: held of 18 or more fails (`held_over`); a count or a missing that is too large alone puts
-- the sum over 558 (`sum_over`); within it only the multiple of 18 is left (`sum_fits`).
use mathlib.Core.Path.{sym}
use native.Mathlib.Omega.{arith}
use Rattle.sound_open.proofs.Laws.{held_over, sum_over, sum_fits}
use Rattle.sound_open.proofs.table_fits.Goals as goal

pub returns-then-held-ge-DESCRIPTOR_SIZE : goal.returns-then-held-ge-DESCRIPTOR_SIZE
returns-then-held-ge-DESCRIPTOR_SIZE c = sym (held_over _ _ _ c.if-held-ge-DESCRIPTOR_SIZE.true)

pub returns-then-count-gt-TABLE_LIMIT : goal.returns-then-count-gt-TABLE_LIMIT
returns-then-count-gt-TABLE_LIMIT c =
    let a = c.args in
    sym (sum_over a.count a.held a.missing (omega arith))

pub returns-then-missing-gt-TABLE_ROOM : goal.returns-then-missing-gt-TABLE_ROOM
returns-then-missing-gt-TABLE_ROOM c =
    let a = c.args in
    sym (sum_over a.count a.held a.missing (omega arith))

pub returns-then-all-gt-TABLE_ROOM : goal.returns-then-all-gt-TABLE_ROOM
returns-then-all-gt-TABLE_ROOM c = sym (sum_over _ _ _ c.if-all-gt-TABLE_ROOM.true)

pub returns : goal.returns
returns c =
    let a = c.args in
    sym (sum_fits a.count a.held a.missing (omega arith) (omega arith))
