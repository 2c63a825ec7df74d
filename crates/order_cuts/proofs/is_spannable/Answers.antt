-- `order_cuts::is_spannable`: a record's tag spans (`record_spans`), an unknown one does not (`unknown_whole`); any
-- other is asked of its row.
use mathlib.Core.Path.{sym, ◌∙◌}
use Rattle.row_table.proofs.Records.{record_spans}
use Rattle.header.proofs.Units.{unknown_whole}
use Rattle.order_cuts.proofs.is_spannable.Goals as goal

pub returns-then-is_record : goal.returns-then-is_record
returns-then-is_record c = sym (record_spans _ (sym c.is_record.ensures ∙ c.if-is_record.true))

pub returns-then-r-eq0 : goal.returns-then-r-eq0
returns-then-r-eq0 c = unknown_whole _ c.row_of-r.result c.row_of-r.ensures.0 c.if-r-eq0.true

pub returns : goal.returns
returns c = rw (c.row_at-row.ensures, c.row_of-r.ensures.0)
