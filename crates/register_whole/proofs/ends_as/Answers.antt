-- `register_whole::ends_as`: the ten bytes compared are `end_of n`, as `put_end` lays them (`end_read`).
use mathlib.Core.Path.{◌∙◌}
use Rattle.register_whole.proofs.Places.{end_read}
use Rattle.register_whole.proofs.ends_as.Goals as goal

pub returns : goal.returns
returns c =
    let a = c.args in
    c.reads.ensures ∙ end_read a.register.now _ a.n c.put_end.ensures
