-- `table_fields::size_of`: the three returns are the cases of `size_of`; the product of two bytes is at most 65025
-- (`bytes_product`), which keeps the multiplication and the result within 65535.
use native.Mathlib.Omega.{arith}
use borrow.Author.Rules.{rules}
use Rattle.table_fields.proofs.Laws.{bytes_product}
use Rattle.lists.specs.Choice.{cases}
use Rattle.table_fields.proofs.size_of.Goals as goal

pub returns-then-d-eq-BINARY : goal.returns-then-d-eq-BINARY
returns-then-d-eq-BINARY c = (
  rw (c.wide-n.ensures.0, c.wide-z.ensures.0) (search cases),
  search rules,
)

pub returns-then-d-eq-SIMULATED : goal.returns-then-d-eq-SIMULATED
returns-then-d-eq-SIMULATED c = (search cases, search rules)

pub overflow_mul-result-2 : goal.overflow_mul-result-2
overflow_mul-result-2 c =
    let b = c in
    omega (arith, bytes_product b.wide-z.ensures.1 b.wide-n.ensures.1)

pub returns : goal.returns
returns c =
    let b = c in
    let product = bytes_product b.wide-z.ensures.1 b.wide-n.ensures.1 in
    (rw (b.wide-n.ensures.0, b.wide-z.ensures.0) (search cases), omega arith)
