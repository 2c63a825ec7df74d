-- `rule_values::spanned_at`: row 5 opens the table (`table_opens`);
-- a row that spans and is not 5 is 11 (`spans_record`), so it opens a record (`record_opens`).
use Rattle.rule_values.proofs.Openings.{spans_record, table_opens, record_opens}
use Rattle.rule_values.proofs.spanned_at.Goals as goal

pub returns-then-row-eq-TABLE_ROW : goal.returns-then-row-eq-TABLE_ROW
returns-then-row-eq-TABLE_ROW c =
    let s = c in
    λ capacity place room l a i f r. rw c.with_open.ensures
    (table_opens capacity place s.args.at s.args.row s.args.base room s.args.h s.args.d.now
    s.args.p l a i s.requires.4 f r c.if-row-eq-TABLE_ROW.true)

pub returns : goal.returns
returns c =
    let s = c in
    let e = c.if-row-eq-TABLE_ROW.false in
    λ capacity place room l a i f r. rw c.record_step.ensures
    (record_opens capacity place s.args.at s.args.row s.args.base room s.args.h s.args.d.now
    s.args.p l a i s.requires.4 f r e
    (spans_record s.args.row s.requires.0 s.requires.1 s.requires.2 e) s.requires.3)
