-- `life_names::byte_at`: past the end the list's default is 0 (`ListN.get_or-eq_default`).
use mathlib.Core.Path.{sym}
use lib.ListN.{get_or-eq_default}
use Rattle.life_names.proofs.byte_at.Goals as goal

pub returns : goal.returns
returns c = sym (get_or-eq_default c.args.s.now 0 {n = c.args.i} c.if-i-s.false)
