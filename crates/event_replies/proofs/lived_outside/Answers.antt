-- `event_replies::lived_outside`: outside '5A' by kind: SELECT (`event_select`), STORE DATA that is no command
-- (`data_refused`), and any other, where `unanswered` tells `otherwise`.
use borrow.Author.Tests.{ne_eqb}
use Rattle.answers.specs.Answers.{said}
use Rattle.event_replies.proofs.Named.{good_name}
use Rattle.event_replies.proofs.ByKind.{event_outside, event_select, event_data, data_refused}
use Rattle.event_replies.proofs.lived_outside.Goals as goal

pub selected_by-requires : goal.selected_by-requires
selected_by-requires c = (
  c.requires.1,
  good_name _ _ c.requires.0,
)

pub returns-then-kind-eq-SELECT : goal.returns-then-kind-eq-SELECT
returns-then-kind-eq-SELECT c =
    let s = c.args in
    rw (event_select s.kind s.p1 s.d.now s.c s.area.now
    c.requires.2
    c.if-kind-eq-SELECT.true) (c.selected_by.ensures _)

pub returns-then-kind-eq-STORE_DATA : goal.returns-then-kind-eq-STORE_DATA
returns-then-kind-eq-STORE_DATA c =
    let s = c.args in
    let q = c.requires in
    rw (
      event_data s.kind s.p1 s.d.now s.c s.area.now q.2 c.if-kind-eq-STORE_DATA.true,
      data_refused s.kind s.p1 s.d.now s.c s.area.now q.2 c.if-kind-eq-STORE_DATA.true q.3,
      c.refused_data.ensures,
    ) (said _ _ _ _)

pub unanswered-x-requires : goal.unanswered-x-requires
unanswered-x-requires c = (
  c.requires.0,
  ne_eqb _ _ c.if-kind-eq-STORE_DATA.false,
  ne_eqb _ _ c.if-kind-eq-SELECT.false,
)

pub returns : goal.returns
returns c =
    let s = c.args in
    rw (
      event_outside s.kind s.p1 s.d.now s.c s.area.now
          c.requires.2,
      c.unanswered-x.ensures,
    ) (said _ _ _ _)
