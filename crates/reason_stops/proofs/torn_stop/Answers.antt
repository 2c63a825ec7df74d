-- `reason_stops::torn_stop`: three cases by the bytes left: below 2 no tag, below 5 no length, else all is there;
-- the two bytes at `at` are the tag (`tag_at`).
use mathlib.Core.Path.{◌∙◌}
use native.Mathlib.Omega.{arith}
use Rattle.reason_stops.proofs.Stops.{no_tag, no_length, all_there, tag_at}
use Rattle.reason_stops.proofs.torn_stop.Goals as goal

pub returns-then-left-lt-TAG_SIZE : goal.returns-then-left-lt-TAG_SIZE
returns-then-left-lt-TAG_SIZE c =
    let s = c.args in
    no_tag s.w _ s.at s.d.now (omega arith)

pub returns-then-left-lt-LONG_SIZE : goal.returns-then-left-lt-LONG_SIZE
returns-then-left-lt-LONG_SIZE c =
    let s = c.args in
    no_length s.w _ s.at s.d.now _ (c.word-tag.ensures ∙ tag_at s.d.now s.at) (omega arith)
    (omega arith)

pub returns : goal.returns
returns c =
    let s = c.args in
    all_there s.w _ s.at s.d.now _ (c.word-tag.ensures ∙ tag_at s.d.now s.at) (omega arith)
    (omega arith)
