-- `event_replies::lived_in_5a`: the cases of `personalizing`: STORE DATA (`data_locks`, `data_unselected`), any other
-- kind at '07' (`event_locks`), and stuck; for any P1 and any area, since neither is looked at.
use mathlib.Core.Bool.{false}
use Rattle.model.specs.Loads.{with_dropped}
use Rattle.answers.specs.Answers.{said}
use Rattle.event_replies.proofs.ByKind.{event_loads, event_locks, event_stuck, data_locks, data_unselected}
use Rattle.event_replies.proofs.lived_in_5a.Goals as goal

pub returns-then-life : goal.returns-then-life
returns-then-life c =
    let s = c.args in
    let q = c.requires in
    let g = c.if-life-eq7.true in
    λ p a. rw (
      event_loads s.kind p s.d.now s.c a q.2 g c.if-kind-eq-STORE_DATA.true,
      data_locks s.kind p s.d.now s.c a q.2 g c.if-kind-eq-STORE_DATA.true c.if-life.true
          (rw q.2 q.3),
      c.locked.ensures,
    )
    (said _ _ a _)

pub returns-then-kind-eq-STORE_DATA : goal.returns-then-kind-eq-STORE_DATA
returns-then-kind-eq-STORE_DATA c =
    let s = c.args in
    let q = c.requires in
    λ p a. rw (
      event_loads s.kind p s.d.now s.c a q.2 c.if-life-eq7.true
          c.if-kind-eq-STORE_DATA.true,
      data_unselected s.kind p s.d.now s.c a c.if-life.false,
    ) (said _ _ a _)

pub told_stuck-t-requires : goal.told_stuck-t-requires
told_stuck-t-requires c = (
  c.requires.0,
  c.requires.1,
)

pub returns-then-life-eq7 : goal.returns-then-life-eq7
returns-then-life-eq7 c =
    let s = c.args in
    let q = c.requires in
    λ p a. rw (
      event_locks s.kind p s.d.now s.c a q.2
          c.if-life-eq7.true
          c.if-kind-eq-STORE_DATA.false,
      c.locked-then-life-eq7.ensures,
    )
    (c.told_stuck-t.ensures p 0x87 false (with_dropped s.c.loading) a)

pub told_stuck-t-requires-2 : goal.told_stuck-t-requires-2
told_stuck-t-requires-2 c = (
  c.requires.0,
  c.requires.1,
)

pub returns : goal.returns
returns c =
    let s = c.args in
    let q = c.requires in
    λ p a. rw (event_stuck s.kind p s.d.now s.c a q.2 c.if-life-eq7.false)
    (c.told_stuck-t-2.ensures p s.c.life.gp s.c.life.selected s.c.loading a)
