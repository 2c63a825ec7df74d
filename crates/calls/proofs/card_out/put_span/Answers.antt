-- `calls::put_span`: each run ends where the next begins (`puts_then`).
use Rattle.std.proofs.Common.{refl, ◌∙◌, rules}
use Rattle.calls.proofs.Runs.{puts_then, puts_as}
use Rattle.calls.proofs.Numbers.{two_out, eight_out}
use Rattle.calls.proofs.card_out.put_span.Goals as goal

pub returns : goal.returns
returns c =
    puts_then c.put.ensures
    (puts_then (puts_as c.put-2.ensures (c.to_be_bytes.ensures ∙ two_out _ (search rules)))
    (puts_then (puts_as c.put-3.ensures (c.to_be_bytes-2.ensures ∙ eight_out _ (search rules)))
    (puts_as c.put-4.ensures (c.to_be_bytes-3.ensures ∙ eight_out _ (search rules))) refl) refl) refl
