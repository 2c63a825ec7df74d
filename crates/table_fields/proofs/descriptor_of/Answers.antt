-- `table_fields::descriptor_of`: field by field `descriptor_of` itself; only the LID is a call's (`memory::word`).
use Rattle.model.specs.Table.{descriptor_of}
use Rattle.table_fields.proofs.descriptor_of.Goals as goal

pub returns : goal.returns
unfolding descriptor_of
returns c = rw c.word-lid.ensures
