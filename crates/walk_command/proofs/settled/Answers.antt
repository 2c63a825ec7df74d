-- `walk_command::settled`: the returns are a done walk not asked for its end, its end passed or failed, a walk that
-- asked, and one that failed; `not_asked`, `passes_end` and `fails_end` say what `the_end` is.
use mathlib.Core.Path.{sym, ◌∙◌}
use Rattle.model.specs.Loads.{running_in}
use Rattle.walk_course.specs.Steps.{on}
use Rattle.walk_command.proofs.Closing.{not_asked, passes_end, fails_end, settles_passed, settles_asked}
use Rattle.walk_command.proofs.Closing.{settles_erred}
use Rattle.walk_command.proofs.settled.Goals as goal

pub returns-then-p1-lt128 : goal.returns-then-p1-lt128
returns-then-p1-lt128 c =
    let s = c.args in
    λ d l a. rw (
      c.passed.ensures,
      c.in-Done.is,
      not_asked s.p1 (on s.p l a) c.if-p1-lt128.true,
    ) (settles_passed d s.p l a s.p)

pub returns-then-w : goal.returns-then-w
returns-then-w c =
    let s = c.args in
    let w = sym c.end_word-w.ensures ∙ c.if-w.true in
    λ d l a. rw (
      c.passed-then-w.ensures,
      c.in-Done.is,
      passes_end s.p1 (on s.p l a) c.if-p1-lt128.false w,
    )
    (settles_passed d s.p l a (running_in 0xA5 s.p))

pub returns-else-w : goal.returns-else-w
returns-else-w c =
    let s = c.args in
    let w = c.end_word-w.ensures in
    λ d l a. rw (
      c.erred.ensures,
      w,
      c.in-Done.is,
      fails_end s.p1 (on s.p l a) c.if-p1-lt128.false (λ q. c.if-w.false (w ∙ q)),
    )
    (settles_erred d s.p l a _)

pub returns-in-Asked : goal.returns-in-Asked
returns-in-Asked c =
    let s = c.args in
    λ d l a. rw (c.passed-in-Asked.ensures, c.in-Asked.is) (settles_asked d s.p l a _)

pub returns-in-Failed : goal.returns-in-Failed
returns-in-Failed c =
    let s = c.args in
    λ d l a. rw (c.erred-in-Failed.ensures, c.in-Failed.is) (settles_erred d s.p l a _)
