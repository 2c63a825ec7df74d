-- `calls::life_in`: the fields of `life_from`, each at its place.
use Rattle.calls.proofs.Numbers.{eight_in}
use Rattle.calls.proofs.card_in.life_in.Goals as goal

pub returns : goal.returns
returns c = simp (c.array.ensures, c.from_be_bytes.ensures, c.array-2.ensures, eight_in c.args.b.now 55)
