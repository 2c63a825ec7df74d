-- `calls::secret_in`: the bytes, and the length behind them.
use Rattle.std.proofs.Common.{◌+◌}
use Rattle.calls.proofs.Numbers.{eight_in}
use Rattle.calls.proofs.card_in.secret_in.Goals as goal

pub returns : goal.returns
returns c = simp (c.array.ensures, c.from_be_bytes.ensures, c.array-2.ensures, eight_in c.args.b.now (c.args.at + 64))
