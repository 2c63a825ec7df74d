-- `table_places::spot_in`: the six returns are the cases of `spot_in`; what is skipped is a product of two bytes, at
-- most 65025 (`bytes_product`), so base plus it fits.
use native.Mathlib.Omega.{arith}
use Rattle.table_fields.proofs.Laws.{bytes_product}
use Rattle.lists.specs.Choice.{cases}
use Rattle.table_places.proofs.spot_in.Goals as goal

pub returns-then-nn-eq0 : goal.returns-then-nn-eq0
returns-then-nn-eq0 c = rw c.size_of.ensures.0 (search cases)

pub overflow_mul-skipped : goal.overflow_mul-skipped
overflow_mul-skipped c = omega (arith, bytes_product c.wide-before.ensures.1 c.wide-size.ensures.1)

pub overflow_add-begin : goal.overflow_add-begin
overflow_add-begin c = omega (arith, bytes_product c.wide-before.ensures.1 c.wide-size.ensures.1)

pub returns : goal.returns
returns c = rw (c.wide-before.ensures.0, c.wide-size.ensures.0) (search cases)
