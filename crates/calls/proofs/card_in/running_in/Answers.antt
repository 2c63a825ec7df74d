-- `calls::running_in`: the fields of `running_from`, each at its place.
use Rattle.calls.proofs.Numbers.{two_in}
use Rattle.calls.proofs.card_in.running_in.Goals as goal

pub returns : goal.returns
returns c =
    simp (
      c.open_in.ensures,
      c.from_be_bytes.ensures,
      c.array.ensures,
      c.from_be_bytes-2.ensures,
      c.array-2.ensures,
      two_in c.args.b.now 64,
      two_in c.args.b.now 66,
    )
