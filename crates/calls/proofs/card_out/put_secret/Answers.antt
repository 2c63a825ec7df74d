-- `calls::put_secret`: the length lies behind the 64 bytes (`puts_then`).
use Rattle.std.proofs.Common.{refl, ◌∙◌, rules}
use Rattle.calls.proofs.Runs.{puts_then, puts_as}
use Rattle.calls.proofs.Numbers.{eight_out}
use Rattle.calls.proofs.card_out.put_secret.Goals as goal

pub returns : goal.returns
returns c =
    puts_then c.put.ensures (puts_as c.put-2.ensures (c.to_be_bytes.ensures ∙ eight_out _ (search rules))) refl
