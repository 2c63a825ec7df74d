-- `rule_content::whole_at`: the value is a part of just `h.len` bytes (`value_length`), so `judged` may be asked;
-- by its word the grouping is refused (`whole_refused`) or kept (`whole_passes`).
use Rattle.rule_content.proofs.Facts.{value_length, whole_passes, whole_refused}
use Rattle.rule_content.proofs.whole_at.Goals as goal

pub judged-w-requires : goal.judged-w-requires
judged-w-requires c = rw (value_length _ _ _ c.requires.2) c.requires.0

pub returns-then-w : goal.returns-then-w
returns-then-w c =
    let j = c in
    let s = j.args in
    λ place l a i. rw c.failed_by.ensures (whole_refused s.capacity s.row s.at s.h s.d.now a
    s.p l _ j.judged-w.ensures place c.if-w.true)

pub returns : goal.returns
returns c =
    let j = c in
    let s = j.args in
    let q = j.requires in
    λ place l a i. rw c.with_taken.ensures (whole_passes s.capacity s.row s.at s.h s.d.now a
    s.p l _ j.judged-w.ensures place i q.2 q.0 c.if-w.false)
