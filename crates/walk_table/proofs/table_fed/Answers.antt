-- `walk_table::table_fed`: feeding all the bytes is feeding those from `at` on to the table that stands then (`Run`).
-- A turn (`Turned`) ends within a descriptor, or its descriptor is refused or enters; one that passes has room.
use Prim.Native.Nat.{◌+◌, ◌-◌, ◌≤◌, ◌<◌, min}
use mathlib.Core.Path.{◌≡◌, refl, sym, ◌∙◌}
use native.Mathlib.Omega.{arith}
use lib.ListN.{length}
use borrow.Author.Rules.{rules}
use Rattle.model.specs.Loads.{with_progress}
use Rattle.model.specs.Rules.{table_bytes}
use Rattle.walk_course.specs.Steps.{missing_in}
use Rattle.walk_table.proofs.Bytes.{fed_feeds}
use Rattle.walk_table.proofs.Laws.{Turned, opened, turned}
use Rattle.walk_table.proofs.table_fed.Goals as goal
use Rattle.walk_table.proofs.table_fed.Goals.{After-holding-l, In-Passes}

-- the bytes that a turn takes are held
turn : (c : After-holding-l)
    → Turned c.args.d.now c.args.at (c.args.at + c.least.result) c.args.l c.loop-at.at c.loop-at.missing
    c.least-n.result c.loop-at.l (with_progress c.holding-l.result c.stashed-bytes.result c.loop-at.l)
turn c =
    turned _ _ _ _ _ _ _ c.loop-at.invariant c.loop-at-test.true c.held_in-held.result _
    c.held_in-held.ensures c.least-n.ensures _
    (rw (c.holding-l.ensures, c.stashed-bytes.ensures))

-- a descriptor that passes: there is room for it, and its bytes were missing
passes : (c : In-Passes)
    → Turned c.args.d.now c.args.at (c.args.at + c.least.result) c.args.l c.loop-at.at c.loop-at.missing
    c.least-n.result c.loop-at.l (with_progress c.holding-l.result c.stashed-bytes.result c.loop-at.l)
    → (c.loop-at.l.count < 31) × (1 ≤ c.loop-at.missing - c.least-n.result)
passes c t =
    let p = t.enters c.if-last-end.false c.in-Passes.field-0
    (rw (← c.descriptor_of-x.ensures, ← c.admit-verdict.ensures) c.in-Passes.is) _ refl in
    (p.0, p.1)

pub loop-at-init : goal.loop-at-init
loop-at-init c =
    record {
      from = omega arith;
      to = omega arith;
      within = omega (arith, c.least.ensures);
      missed = omega (arith, c.least.ensures);
      fed = rw c.missing_in-missing.ensures c.requires.1;
      same = λ a. refl;
    }

pub overflow_sub-held : goal.overflow_sub-held
overflow_sub-held c =
    let g = c.loop-at.invariant in
    (opened _ _ _ _ _ c.held_in-held.ensures g.fed c.loop-at-test.true g.missed).1

pub stashed-bytes-requires : goal.stashed-bytes-requires
stashed-bytes-requires c =
    let g = c.loop-at.invariant in
    let f = (opened _ _ _ _ _ c.held_in-held.ensures g.fed c.loop-at-test.true g.missed).1 in
    search rules

pub overflow_sub-missing : goal.overflow_sub-missing
overflow_sub-missing c =
    omega (arith, c.least-n.ensures, c.loop-at.invariant.missed)

pub returns-then-last-end : goal.returns-then-last-end
returns-then-last-end c =
    let e : c.least.result ≡ min (missing_in c.args.l.running.pending) (length c.args.d.now - c.args.at) =
    rw (← c.missing_in-missing.ensures) c.least.ensures in (
      λ a. sym (fed_feeds c.args.d.now c.args.at c.least.result c.args.l a c.requires.1 e ∙ rw
          ((turn (goal.at.returns-then-last-end c).After-holding-l).breaks c.if-last-end.true a)),
      rw e,
    )

pub bounds-d-last : goal.bounds-d-last
bounds-d-last c = (turn (goal.at.bounds-d-last c).After-holding-l).within c.if-last-end.false

pub admit-verdict-requires : goal.admit-verdict-requires
admit-verdict-requires c = (turn (goal.at.admit-verdict-requires c).After-holding-l).count

pub offset_bounds-l-count : goal.offset_bounds-l-count
offset_bounds-l-count c =
    let p = (passes c (turn (goal.at.offset_bounds-l-count c).After-holding-l)).0 in
    search rules

pub bounds-l-count : goal.bounds-l-count
bounds-l-count c = (passes c (turn (goal.at.bounds-l-count c).After-holding-l)).0

pub overflow_add-l : goal.overflow_add-l
overflow_add-l c =
    let p = (passes c (turn (goal.at.overflow_add-l c).After-holding-l)).0 in
    search rules

pub overflow_sub-missing-in-Passes-2 : goal.overflow_sub-missing-in-Passes-2
overflow_sub-missing-in-Passes-2 c =
    let at = goal.at.overflow_sub-missing-in-Passes-2 c in
    (passes at.In-Passes (turn at.After-holding-l)).1

pub behind-at-requires : goal.behind-at-requires
behind-at-requires c =
    (turn (goal.at.behind-at-requires c).After-holding-l).ahead c.if-last-end.false

pub loop-at-smaller : goal.loop-at-smaller
loop-at-smaller c = rw c.behind-at.ensures (omega (arith, c.loop-at-test.true))

pub loop-at-preserved : goal.loop-at-preserved
loop-at-preserved c =
    let p = (turn (goal.at.loop-at-preserved c).After-holding-l).enters c.if-last-end.false c.in-Passes.field-0
    (rw (← c.descriptor_of-x.ensures, ← c.admit-verdict.ensures) c.in-Passes.is) _ refl in
    rw (c.behind-at.ensures, c.table_run-l.ensures, c.descriptor_of-x.ensures) p.2

pub returns-in-Refuses : goal.returns-in-Refuses
returns-in-Refuses c =
    let e : c.least.result ≡ min (missing_in c.args.l.running.pending) (length c.args.d.now - c.args.at) =
    rw (← c.missing_in-missing.ensures) c.least.ensures in
    let r = (turn (goal.at.returns-in-Refuses c).After-holding-l).refuses c.if-last-end.false c.in-Refuses.field-0
    (rw (← c.descriptor_of-x.ensures, ← c.admit-verdict.ensures) c.in-Refuses.is) in
    let w = c.in-Refuses.is in (
      λ a. rw w
          (sym (fed_feeds c.args.d.now c.args.at c.least.result c.args.l a c.requires.1 e ∙ rw (r a))),
      rw w tt,
    )

pub returns : goal.returns
unfolding table_bytes
returns c =
    let z : c.args.at + c.least.result - c.loop-at.at ≡ 0 = omega arith in
    let e : c.least.result ≡ min (missing_in c.args.l.running.pending) (length c.args.d.now - c.args.at) =
    rw (← c.missing_in-missing.ensures) c.least.ensures in (
      λ a. sym (fed_feeds c.args.d.now c.args.at c.least.result c.args.l a c.requires.1 e ∙ rw
          (c.loop-at.invariant.same a, z)),
      rw e,
    )
