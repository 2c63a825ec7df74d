-- `reason_stops::length_stop`: one law for each return: the value spans, is whole, is short, or has a wrong length.
-- No row's step is 0 (`row_steps`), as `fits_row` asks.
use Prim.Native.Nat.{◌-◌}
use mathlib.Core.Path.{sym, ◌∙◌}
use Rattle.model.specs.Loads.{file_list}
use Rattle.rule_values.proofs.Sizes.{row_steps}
use Rattle.reason_stops.proofs.Stops.{value_spans, value_whole, value_short, value_wrong}
use Rattle.reason_stops.proofs.length_stop.Goals as goal

pub fits_row-requires : goal.fits_row-requires
fits_row-requires c =
    let s = c in
    rw c.row_at-x.ensures (row_steps s.args.row s.requires.1 s.requires.2)

pub returns-then-x : goal.returns-then-x
returns-then-x c =
    let s = c.args in
    c.value_stop.ensures ∙ sym (value_spans (file_list s.l) s.l.count s.w s.row s.room s.h
    (s.at - 3) s.at s.d.now _ c.row_at-x.ensures
    (sym c.fits_row.ensures ∙ c.if-fits_row.true)
    c.if-x.true)

pub returns-then-h-left : goal.returns-then-h-left
returns-then-h-left c =
    let s = c.args in
    c.value_stop-then-h-left.ensures ∙ sym (value_whole (file_list s.l) s.l.count s.w s.row s.room s.h
    (s.at - 3) s.at s.d.now _ c.row_at-x.ensures (sym c.fits_row.ensures ∙ c.if-fits_row.true) c.if-x.false c.if-h-left.true)

pub returns-then-fits_row : goal.returns-then-fits_row
returns-then-fits_row c =
    let s = c.args in
    c.stop_as.ensures ∙ sym (value_short (file_list s.l) s.l.count s.w s.row s.room s.h
    (s.at - 3) s.at s.d.now _ c.row_at-x.ensures (sym c.fits_row.ensures ∙ c.if-fits_row.true) c.if-x.false
    c.if-h-left.false)

pub returns : goal.returns
returns c =
    let s = c.args in
    c.stop_as-2.ensures ∙ sym (value_wrong (file_list s.l) s.l.count s.w s.row s.room s.h
    (s.at - 3) s.at s.d.now _ c.row_at-x.ensures
    (sym c.fits_row.ensures ∙ c.if-fits_row.false))
