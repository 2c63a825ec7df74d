-- `order_records::lay_records`: the records laid so far and those of the commands left are all the records (`Laid`),
-- and there is room for those left. The last is laid behind the loop, with P1 '80'.
use native.Mathlib.Nat.{le_refl}
use native.Mathlib.Omega.{arith}
use lib.ListN.{length-take}
use Rattle.lists.specs.Over.{length_over}
use Rattle.model.specs.Stored.{record_size}
use Rattle.order_records.proofs.Records.{laid_none, laid_more, laid_last, start_within, laid_all_lem}
use Rattle.model.proofs.Laws.{length_written}
use Rattle.order_cuts.proofs.Commands.{fitting_start}
use Rattle.order_records.proofs.lay_records.Goals as goal

pub lay_record-requires : goal.lay_record-requires
lay_record-requires c =
    (omega arith, omega (arith, length_written c.args.order.now, c.requires.1))

pub command_end-end-requires : goal.command_end-end-requires
command_end-end-requires c =
    (omega arith, fitting_start c.args.order.now c.requires.0)

pub loop-end-init : goal.loop-end-init
loop-end-init c =
    let f = c.lay_record in
    let n = length_written c.args.order.now in
    laid_none c.args.order.now f.new.room record_size c.command_end-end.result c.command_end-end.ensures
    (rw (f.ensures, length_over) (omega (arith, n, c.requires.1)))

pub slice_bounds-lay_record-count : goal.slice_bounds-lay_record-count
slice_bounds-lay_record-count c = c.loop-end.invariant.forth

pub slice_bounds-lay_record-start : goal.slice_bounds-lay_record-start
slice_bounds-lay_record-start c = c.loop-end.invariant.forth

pub lay_record-requires-in-loop-end : goal.lay_record-requires-in-loop-end
lay_record-requires-in-loop-end c =
    let g = c.loop-end.invariant in
    (rw length-take (omega (arith, g.size)), omega (arith, g.keeps, g.fits))

pub overflow_add-to : goal.overflow_add-to
overflow_add-to c =
    omega (arith, c.loop-end.invariant.fits, c.lay_record.auto.room, c.well_formed.1.0)

pub command_end-end-requires-in-loop-end : goal.command_end-end-requires-in-loop-end
command_end-end-requires-in-loop-end c =
    let g = c.loop-end.invariant in
    (g.within, g.fitting)

pub loop-end-smaller : goal.loop-end-smaller
loop-end-smaller c =
    let e = c.command_end-end-in-loop-end.ensures in
    let l = c.loop-end-test.true in
    omega (arith, e.moves l, e.within, l)

pub loop-end-preserved : goal.loop-end-preserved
loop-end-preserved c =
    let r = c.lay_record-in-loop-end in
    let l = c.loop-end in
    laid_more _ _ _ l.room r.new.room l.start l.end c.command_end-end-in-loop-end.result l.to
    l.invariant c.loop-end-test.true r.ensures c.command_end-end-in-loop-end.ensures

pub slice_bounds-lay_record-count-2 : goal.slice_bounds-lay_record-count-2
slice_bounds-lay_record-count-2 c = start_within _ _ _ c.loop-end.invariant

pub slice_bounds-lay_record-start-2 : goal.slice_bounds-lay_record-start-2
slice_bounds-lay_record-start-2 c = start_within _ _ _ c.loop-end.invariant

pub slice_bounds-lay_record-end-2 : goal.slice_bounds-lay_record-end-2
slice_bounds-lay_record-end-2 c = le_refl _

pub lay_record-requires-2 : goal.lay_record-requires-2
lay_record-requires-2 c =
    let g = c.loop-end.invariant in
    (rw length-take (omega (arith, g.size, c.loop-end-test.false)), omega (arith, g.keeps, g.fits))

pub shape_of-room : goal.shape_of-room
shape_of-room c =
    let f = c.lay_record in
    rw (c.lay_record-2.ensures, length_over, c.loop-end.invariant.keeps, f.ensures, length_over)

pub returns : goal.returns
returns c =
    let r = c.lay_record-2 in
    let a = c.args in
    let b = c.lay_record.new.room in
    laid_all_lem a.order.now a.room.now b r.new.room c.lay_record.ensures
    (laid_last a.order.now b record_size c.loop-end.room r.new.room c.loop-end.start c.loop-end.end
    c.loop-end.to
    c.loop-end.invariant c.loop-end-test.false r.ensures)
