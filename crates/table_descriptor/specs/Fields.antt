-- What an EF's descriptor says by itself.
use Rattle.std.specs.Prelude.{Bool, ◌&&◌, eqb, leb}
use Rattle.model.specs.declared.Descriptor.{Descriptor}
use Rattle.model.specs.Table.{ef_type, sizes_ok}

abbrev pub ef_fields : Descriptor → Bool
ef_fields d = leb d.sfi 0x1E && eqb d.filetype 0x04 && ef_type d.eftype && eqb d.status 0 && sizes_ok d
