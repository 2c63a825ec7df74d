-- `walk_step::head_tag`: the three returns are a record's header, another tag's, and a torn one, as in `head_tag`.
use mathlib.Core.Path.{sym, ◌∙◌}
use Rattle.walk_step.proofs.head_tag.Goals as goal

pub returns-then-is_record : goal.returns-then-is_record
returns-then-is_record c =
    rw (
      sym c.header_at-header.ensures ∙ c.in-Whole.is,
      ← c.is_record.ensures,
      c.if-is_record.true,
    )

pub returns-else-is_record : goal.returns-else-is_record
returns-else-is_record c =
    rw (
      sym c.header_at-header.ensures ∙ c.in-Whole.is,
      ← c.is_record.ensures,
      c.if-is_record.false,
    )

pub returns-in-Torn : goal.returns-in-Torn
returns-in-Torn c = rw (sym c.header_at-header.ensures ∙ c.in-Torn.is)
