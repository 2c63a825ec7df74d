-- `order_records::lay_record`: four bytes, the data, zeros up to the record's end (`record_laid`); the data is
-- at most `data_room`, so it ends within the record (`data_within`).
use native.Mathlib.Omega.{arith}
use Rattle.lists.specs.Over.{length_over}
use Rattle.order_records.proofs.Laying.{data_within, record_laid}
use Rattle.order_records.proofs.lay_record.Goals as goal

pub put_bytes-requires-2 : goal.put_bytes-requires-2
put_bytes-requires-2 c =
    rw (c.put_bytes.ensures, length_over) (omega (arith, c.requires.0, c.requires.1))

pub slice_bounds-clear-count : goal.slice_bounds-clear-count
slice_bounds-clear-count c = data_within _ _ c.requires.0

pub slice_bounds-clear-start : goal.slice_bounds-clear-start
slice_bounds-clear-start c = data_within _ _ c.requires.0

pub slice_bounds-clear-end : goal.slice_bounds-clear-end
slice_bounds-clear-end c =
    rw (c.put_bytes-2.ensures, length_over, c.put_bytes.ensures, length_over) (omega (arith, c.requires.1))

pub returns : goal.returns
returns c =
    let a = c.args in
    record_laid a.room.now c.put_bytes.new.dst c.put_bytes-2.new.dst c.clear.new.dst
    a.bytes.now a.to a.p1
    c.requires.0 c.requires.1 c.put_bytes.ensures c.put_bytes-2.ensures c.clear.ensures
