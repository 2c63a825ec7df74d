-- `calls::loading_in`: the fields of `loading_from`, each at its place.
use Rattle.calls.proofs.Numbers.{four_in, eight_in}
use Rattle.calls.proofs.card_in.loading_in.Goals as goal

pub returns : goal.returns
returns c =
    simp (
      c.running_in.ensures,
      c.array.ensures,
      c.files_in.ensures,
      c.from_be_bytes.ensures,
      c.array-2.ensures,
      eight_in c.args.b.now 663,
      c.array-3.ensures,
      c.array-4.ensures,
      c.from_be_bytes-2.ensures,
      c.array-5.ensures,
      four_in c.args.b.now 686,
      c.secrets_in.ensures,
    )
