-- `walk_command::walked`: the walk from `at` is the walk from i on of the state that stands then (`Going`); a turn is
-- judged once (`Turn`) and has a case a course. The inner loop seeks the wanted record (`Scanning`).
use Prim.Native.Nat.{◌+◌, ◌-◌, ◌≤◌, ◌<◌}
use mathlib.Core.Path.{◌≡◌, refl, sym, ◌∙◌}
use native.Mathlib.Omega.{arith}
use lib.ListN.{length, drop, length-take, length-drop}
use Rattle.table_places.proofs.Scans.{scan_begins, scan_more, scan_found, scan_ends}
use Rattle.walk_course.specs.Steps.{state_of}
use Rattle.walk_step.specs.Paces.{onward}
use Rattle.walk_command.proofs.Owner.{rests_so, spot_within, spot_fits, reaches, Turn, turned}
use Rattle.model.specs.Stored.{area_size}
use Rattle.model.specs.Loads.{file_list}
use Rattle.model.specs.Rules.{tag_spot}
use Rattle.walk_step.specs.Turns.{wanted_tag}
use lib.Seq.{length-take-le}
use Rattle.lists.specs.Bytes.{part}
use Rattle.lists.specs.Over.{over_mid}
use Rattle.walk_command.proofs.walked.Goals as goal
use Rattle.walk_command.proofs.walked.Goals.{After-loop-j, After-step_at-s}
use Prim.Native.Nat.{ℕ}
use mathlib.Core.List.{List}
use Rattle.model.specs.declared.Loading.{Loading}
use Rattle.walk_course.specs.declared.Course.TheVariants.{Lays}
use Rattle.walk_course.specs.declared.Step.{Step}
use Rattle.walk_step.specs.Paces.{Paced}

-- the record that is wanted lies where the search ended
found : (c : After-loop-j)
    → c.loop-j.spot ≡ tag_spot (file_list c.loop-i.load) (wanted_tag c.loop-i.load.running.pending
    (drop c.loop-i.i c.args.d.now))
found c =
    let g = c.loop-i in
    let r = c.loop-j in
    let fits : g.load.count ≤ length g.load.files =
    omega (arith, g.invariant.steady.inside.count, g.invariant.steady.inside.room) in
    rw (← c.wanted-tag.ensures)
    (scan_ends g.load.files g.load.count fits _ _ r.spot r.base r.j r.invariant c.loop-j-test.false)

-- a turn whose step is judged
turn : (c : After-step_at-s) → (c.loop-j.spot ≡ tag_spot (file_list c.loop-i.load) (wanted_tag c.loop-i.load.running.pending
    (drop c.loop-i.i c.args.d.now)))
    → Turn c.args.capacity c.args.p1 c.args.d.now
    (onward c.args.capacity (length c.args.d.now) c.args.p1 c.args.at (drop c.args.at c.args.d.now)
    (state_of c.args.load c.args.area.now)) c.loop-i.i c.loop-i.load c.loop-i.area c.step_at-s.result
turn c f =
    let g = c.loop-i in
    turned c.args.capacity c.args.p1 c.args.d.now _ g.i g.place g.load g.area g.invariant c.loop-i-test.true
    c.step_at-s.result (c.step_at-s.ensures g.load g.area g.invariant.steady f)

-- bytes that are laid lie in the data, behind the turn's own place, and their record's part in the area
laid : {capacity p1 : ℕ} {d : List ℕ} {from : Paced} {i : ℕ} {load : Loading} {area : List ℕ} {s : Step}
    → Turn capacity p1 d from i load area s → length area ≡ area_size → (to start end : ℕ)
    → s.course ≡ Lays to start end
    → (i < end) × (start ≤ end) × (end ≤ length d) × (to + (end - start) ≤ area_size) × (length area ≡ area_size)
laid t y to start end e = let a = t.ahead _ e in (a.0, a.1, a.2, a.3, y)

pub loop-i-init : goal.loop-i-init
loop-i-init c = record { within = c.requires.0; steady = c.requires.1; same = refl }

pub loop-j-init : goal.loop-j-init
loop-j-init c =
    rw c.scan_from-j.ensures (scan_begins c.loop-i.load.files c.loop-i.load.count
    (omega (arith, c.loop-i.invariant.steady.inside.count, c.loop-i.invariant.steady.inside.room)) _ _)

pub bounds-load-j : goal.bounds-load-j
bounds-load-j c = (omega (arith, c.loop-i.invariant.steady.inside.count, c.loop-i.invariant.steady.inside.room))

pub spot_in-spot-requires : goal.spot_in-spot-requires
spot_in-spot-requires c =
    omega (
      arith,
      c.loop-j.invariant.below,
      c.loop-j.invariant.within,
      c.loop-i.invariant.steady.inside.count,
    )

pub loop-j-preserved-then-f-sfi : goal.loop-j-preserved-then-f-sfi
loop-j-preserved-then-f-sfi c =
    let r = c.loop-j in
    scan_found c.loop-i.load.files c.loop-i.load.count (omega (arith, c.loop-i.invariant.steady.inside.count, c.loop-i.invariant.steady.inside.room)) _ _ r.spot r.base r.j
    r.invariant c.loop-j-test.true _ c.if-f-sfi.true c.spot_in-spot.ensures

pub overflow_add-base : goal.overflow_add-base
overflow_add-base c =
    omega (
      arith,
      c.loop-j.invariant.below,
      c.loop-j.invariant.within,
      c.loop-i.invariant.steady.inside.count,
      c.size_of-base.ensures.1,
    )

pub overflow_add-j : goal.overflow_add-j
overflow_add-j c = omega (arith, c.loop-i.invariant.steady.inside.count)

pub loop-j-preserved : goal.loop-j-preserved
loop-j-preserved c =
    let r = c.loop-j in
    scan_more c.loop-i.load.files c.loop-i.load.count (omega (arith, c.loop-i.invariant.steady.inside.count, c.loop-i.invariant.steady.inside.room)) _ _ r.spot r.base r.j
    r.invariant c.loop-j-test.true _ c.size_of-base.ensures.0 c.size_of-base.ensures.1 c.if-f-sfi.false

pub step_at-s-requires : goal.step_at-s-requires
step_at-s-requires c =
    let g = c.loop-i in
    let b = drop g.i c.args.d.now in
    let f = found (goal.at.step_at-s-requires c).After-loop-j in (
      c.loop-i-test.true,
      spot_within g.load g.area g.invariant.steady b _ f,
      spot_fits g.load g.area g.invariant.steady b _ f,
    )

pub overflow_sub-end : goal.overflow_sub-end
overflow_sub-end c = omega (
  arith,
  laid (turn (goal.at.overflow_sub-end c).After-step_at-s (found (goal.at.overflow_sub-end c).After-loop-j))
      c.loop-i.invariant.steady.area _ _ _ c.in-Lays.is,
)

pub overflow_add-to : goal.overflow_add-to
overflow_add-to c = omega (
  arith,
  laid (turn (goal.at.overflow_add-to c).After-step_at-s (found (goal.at.overflow_add-to c).After-loop-j))
      c.loop-i.invariant.steady.area _ _ _ c.in-Lays.is,
)

pub slice_bounds-lay-count : goal.slice_bounds-lay-count
slice_bounds-lay-count c = omega (
  arith,
  laid (turn (goal.at.slice_bounds-lay-count c).After-step_at-s (found (goal.at.slice_bounds-lay-count c).After-loop-j))
      c.loop-i.invariant.steady.area _ _ _ c.in-Lays.is,
)

pub slice_bounds-lay-start : goal.slice_bounds-lay-start
slice_bounds-lay-start c = omega (
  arith,
  laid (turn (goal.at.slice_bounds-lay-start c).After-step_at-s (found (goal.at.slice_bounds-lay-start c).After-loop-j))
      c.loop-i.invariant.steady.area _ _ _ c.in-Lays.is,
)

pub slice_bounds-lay-end : goal.slice_bounds-lay-end
slice_bounds-lay-end c = omega (
  arith,
  laid (turn (goal.at.slice_bounds-lay-end c).After-step_at-s (found (goal.at.slice_bounds-lay-end c).After-loop-j))
      c.loop-i.invariant.steady.area _ _ _ c.in-Lays.is,
)

pub slice_bounds-lay-count-in-Lays : goal.slice_bounds-lay-count-in-Lays
slice_bounds-lay-count-in-Lays c = omega (
  arith,
  laid (turn (goal.at.slice_bounds-lay-count-in-Lays c).After-step_at-s (found (goal.at.slice_bounds-lay-count-in-Lays c).After-loop-j))
      c.loop-i.invariant.steady.area _ _ _ c.in-Lays.is,
)

pub slice_bounds-lay-start-in-Lays : goal.slice_bounds-lay-start-in-Lays
slice_bounds-lay-start-in-Lays c = omega (
  arith,
  laid (turn (goal.at.slice_bounds-lay-start-in-Lays c).After-step_at-s (found (goal.at.slice_bounds-lay-start-in-Lays c).After-loop-j))
      c.loop-i.invariant.steady.area _ _ _ c.in-Lays.is,
)

pub slice_bounds-lay-end-in-Lays : goal.slice_bounds-lay-end-in-Lays
slice_bounds-lay-end-in-Lays c = omega (
  arith,
  laid (turn (goal.at.slice_bounds-lay-end-in-Lays c).After-step_at-s (found (goal.at.slice_bounds-lay-end-in-Lays c).After-loop-j))
      c.loop-i.invariant.steady.area _ _ _ c.in-Lays.is,
)

pub loop-i-smaller-in-Lays : goal.loop-i-smaller-in-Lays
loop-i-smaller-in-Lays c = omega (
  arith,
  laid (turn (goal.at.loop-i-smaller-in-Lays c).After-step_at-s (found (goal.at.loop-i-smaller-in-Lays c).After-loop-j))
      c.loop-i.invariant.steady.area _ _ _ c.in-Lays.is,
)

pub lay-requires : goal.lay-requires
lay-requires c = simp (length-take, length-drop) (omega (
  arith,
  laid (turn (goal.at.lay-requires c).After-step_at-s (found (goal.at.lay-requires c).After-loop-j))
      c.loop-i.invariant.steady.area _ _ _ c.in-Lays.is,
))

pub loop-i-preserved-in-Lays : goal.loop-i-preserved-in-Lays
loop-i-preserved-in-Lays c =
    let t = (turn (goal.at.loop-i-preserved-in-Lays c).After-step_at-s (found (goal.at.loop-i-preserved-in-Lays c).After-loop-j)) in
    let x = c.in-Lays in
    let a = laid t c.loop-i.invariant.steady.area _ _ _ x.is in
    rw (
      c.lay.ensures,
      over_mid c.loop-i.area (part c.args.d.now x.start (x.end - x.start))
          x.to (x.to + (x.end - x.start) - x.to)
          (omega (arith, a, length-take (x.end - x.start) (drop x.start c.args.d.now)))
          (omega (arith, a)),
    )
    (t.lays _ _ _ x.is)

pub slice_bounds-kept_as-count : goal.slice_bounds-kept_as-count
slice_bounds-kept_as-count c =
    let a = (turn (goal.at.slice_bounds-kept_as-count c).After-step_at-s (found (goal.at.slice_bounds-kept_as-count c).After-loop-j)).ahead _ c.in-Keeps.is in
    omega (arith, a)

pub slice_bounds-kept_as-start : goal.slice_bounds-kept_as-start
slice_bounds-kept_as-start c =
    let a = (turn (goal.at.slice_bounds-kept_as-start c).After-step_at-s (found (goal.at.slice_bounds-kept_as-start c).After-loop-j)).ahead _ c.in-Keeps.is in
    omega (arith, a)

pub slice_bounds-kept_as-end : goal.slice_bounds-kept_as-end
slice_bounds-kept_as-end c =
    let a = (turn (goal.at.slice_bounds-kept_as-end c).After-step_at-s (found (goal.at.slice_bounds-kept_as-end c).After-loop-j)).ahead _ c.in-Keeps.is in
    omega (arith, a)

pub loop-i-smaller-in-Keeps : goal.loop-i-smaller-in-Keeps
loop-i-smaller-in-Keeps c =
    let a = (turn (goal.at.loop-i-smaller-in-Keeps c).After-step_at-s (found (goal.at.loop-i-smaller-in-Keeps c).After-loop-j)).ahead _ c.in-Keeps.is in
    omega (arith, a)

pub kept_as-load-requires : goal.kept_as-load-requires
kept_as-load-requires c =
    let a = (turn (goal.at.kept_as-load-requires c).After-step_at-s (found (goal.at.kept_as-load-requires c).After-loop-j)).ahead _ c.in-Keeps.is in
    let x = c.in-Keeps in
    rw (length-take-le (x.end - x.start) (drop x.start c.args.d.now) (rw length-drop (omega (arith, a)))) a.3

pub loop-i-preserved-in-Keeps : goal.loop-i-preserved-in-Keeps
loop-i-preserved-in-Keeps c =
    rw c.kept_as-load.ensures ((turn (goal.at.loop-i-preserved-in-Keeps c).After-step_at-s (found (goal.at.loop-i-preserved-in-Keeps c).After-loop-j)).keeps _ _ _ c.in-Keeps.is)

pub table_fed-t-requires : goal.table_fed-t-requires
table_fed-t-requires c =
    let a = (turn (goal.at.table_fed-t-requires c).After-step_at-s (found (goal.at.table_fed-t-requires c).After-loop-j)).ahead _ c.in-Feeds.is in
    (a.1, a.3)

pub loop-i-smaller : goal.loop-i-smaller
loop-i-smaller c =
    let a = (turn (goal.at.loop-i-smaller c).After-step_at-s (found (goal.at.loop-i-smaller c).After-loop-j)).ahead _ c.in-Feeds.is in
    omega (arith, a, reaches _ _ _ c.in-Passes.is c.table_fed-t.ensures.1)

pub loop-i-preserved : goal.loop-i-preserved
loop-i-preserved c =
    let t = (turn (goal.at.loop-i-preserved c).After-step_at-s (found (goal.at.loop-i-preserved c).After-loop-j)) in
    let a = t.ahead _ c.in-Feeds.is in
    t.feeds _ c.in-Feeds.is _ _ c.table_fed-t.ensures.0 _ c.in-Passes.is
    (omega (arith, a, reaches _ _ _ c.in-Passes.is c.table_fed-t.ensures.1))

pub shape_of-area-in-Refuses : goal.shape_of-area-in-Refuses
shape_of-area-in-Refuses c = c.loop-i.invariant.steady.area ∙ sym c.requires.1.area

pub shape_of-area-in-Asked : goal.shape_of-area-in-Asked
shape_of-area-in-Asked c = c.loop-i.invariant.steady.area ∙ sym c.requires.1.area

pub shape_of-area-in-Failed : goal.shape_of-area-in-Failed
shape_of-area-in-Failed c = c.loop-i.invariant.steady.area ∙ sym c.requires.1.area

pub shape_of-area : goal.shape_of-area
shape_of-area c = c.loop-i.invariant.steady.area ∙ sym c.requires.1.area

pub returns-in-Refuses : goal.returns-in-Refuses
returns-in-Refuses c =
    (turn (goal.at.returns-in-Refuses c).After-step_at-s (found (goal.at.returns-in-Refuses c).After-loop-j)).refuses _ c.in-Feeds.is _ _ c.table_fed-t.ensures.0 _ c.in-Refuses.is

pub returns-in-Asked : goal.returns-in-Asked
returns-in-Asked c = (turn (goal.at.returns-in-Asked c).After-step_at-s (found (goal.at.returns-in-Asked c).After-loop-j)).asks _ c.in-Asked.is

pub returns-in-Failed : goal.returns-in-Failed
returns-in-Failed c = (turn (goal.at.returns-in-Failed c).After-step_at-s (found (goal.at.returns-in-Failed c).After-loop-j)).fails _ c.in-Failed.is

pub returns : goal.returns
returns c = rests_so _ _ _ _ _ _ _ _ c.loop-i.invariant c.loop-i-test.false
