-- `call_run::run`: `Going` says that i of k records have been played and what they leave; a refused session has none
-- to play. The card stays good (`still_good`), and at the end `all_run` has played all k.
use mathlib.Core.Path.{refl, sym}
use native.Mathlib.Omega.{arith}
use native.Mathlib.Nat.{add-sub_cancel_left, le-add_right}
use lib.ListN.{length-take, length-drop}
use Rattle.call_run.proofs.Running.{begins, begins_none, still_good, as_many_words}
use Rattle.call_run.proofs.Running.{goes_on_lem, all_run}
use Rattle.call_run.proofs.run.Goals as goal
use Rattle.call_run.proofs.run.Goals.{then-number-eq0, else-number-eq0}

pub loop-i-init : goal.loop-i-init
loop-i-init c =
    let h = c.refusal-number.ensures in
    elim c.if-number-eq0.branch [
      | then-number-eq0 w ↦ begins _ _ _ _ _ _ _ refl h w.if-number-eq0.true w.k-is
      | else-number-eq0 w ↦ begins_none _ _ _ _ _ _ _ refl h w.if-number-eq0.false w.k-is
    ]

pub overflow_mul-at : goal.overflow_mul-at
overflow_mul-at c =
    omega (arith, c.loop-i-test.true, c.loop-i.invariant.bytes)

pub overflow_add-at : goal.overflow_add-at
overflow_add-at c =
    let t = c in
    let g = t.loop-i.invariant in
    omega (arith, t.loop-i-test.true, g.bytes)

pub slice_bounds-turn-count : goal.slice_bounds-turn-count
slice_bounds-turn-count c = le-add_right _ _

pub slice_bounds-turn-start : goal.slice_bounds-turn-start
slice_bounds-turn-start c = le-add_right _ _

pub slice_bounds-turn-end : goal.slice_bounds-turn-end
slice_bounds-turn-end c = sym c.loop-i.invariant.room

pub turn-x-requires : goal.turn-x-requires
turn-x-requires c =
    let t = c in
    let g = t.loop-i.invariant in (
      still_good _ _ _ _ _ _ _ g t.loop-i-test.true,
      omega (arith, g.room),
      simp (length-take, length-drop) (omega (arith, g.bytes, t.loop-i-test.true)),
    )

pub offset_bounds-words-i : goal.offset_bounds-words-i
offset_bounds-words-i c =
    let t = c in
    let g = t.loop-i.invariant in
    omega (arith, t.loop-i-test.true, g.bytes)

pub bounds-words-i : goal.bounds-words-i
bounds-words-i c =
    let t = c in
    let g = t.loop-i.invariant in
    rw (as_many_words _ _ _ _ _ _ _ g) (omega (arith, t.loop-i-test.true, g.places))

pub overflow_add-i : goal.overflow_add-i
overflow_add-i c =
    let n = c in
    let g = n.loop-i.invariant in
    omega (arith, n.loop-i-test.true, g.bytes)

pub loop-i-smaller : goal.loop-i-smaller
loop-i-smaller c =
    let l = c in
    omega (arith, l.loop-i-test.true)

pub loop-i-preserved : goal.loop-i-preserved
loop-i-preserved c =
    let x = c.turn-x in
    goes_on_lem _ _ _ _ _ _ _ c.loop-i.invariant _ _ _ _ c.loop-i-test.true (rw add-sub_cancel_left) x.auto.area x.auto.answer x.ensures

pub shape_of-area : goal.shape_of-area
shape_of-area c = c.loop-i.invariant.keeps

pub shape_of-words : goal.shape_of-words
shape_of-words c = as_many_words _ _ _ _ _ _ _ c.loop-i.invariant

pub returns : goal.returns
returns c = all_run _ _ _ _ _ _ _ c.loop-i.invariant c.loop-i-test.false
