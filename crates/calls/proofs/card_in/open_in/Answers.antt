-- `calls::open_in`: what stands at the places of `open_from`.
use Rattle.calls.proofs.Numbers.{two_in, eight_in}
use Rattle.calls.proofs.card_in.open_in.Goals as goal

pub returns-in-1 : goal.returns-in-1
returns-in-1 c =
    let b = c.args.b.now in
    simp (
      c.in-1.is,
      c.from_be_bytes-count.ensures,
      c.array-2.ensures,
      eight_in b 71,
      c.from_be_bytes-missing.ensures,
      c.array-3.ensures,
      eight_in b 79,
    )

pub returns-in-2 : goal.returns-in-2
returns-in-2 c =
    let b = c.args.b.now in
    simp (
      c.in-2.is,
      c.from_be_bytes-tag.ensures,
      c.array.ensures,
      two_in b 69,
      c.from_be_bytes-count.ensures,
      c.array-2.ensures,
      eight_in b 71,
      c.from_be_bytes-missing.ensures,
      c.array-3.ensures,
      eight_in b 79,
    )
