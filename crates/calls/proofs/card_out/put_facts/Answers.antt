-- `calls::put_facts`: each run ends where the next begins (`puts_then`).
use Rattle.std.proofs.Common.{refl, ◌∙◌, rules}
use Rattle.calls.proofs.Runs.{puts_then, puts_as}
use Rattle.calls.proofs.Numbers.{four_out, eight_out}
use Rattle.calls.proofs.card_out.put_facts.Goals as goal

pub returns : goal.returns
returns c =
    puts_then (puts_as c.put.ensures (c.to_be_bytes.ensures ∙ eight_out _ (search rules)))
    (puts_then c.put-2.ensures
    (puts_then c.put-3.ensures
    (puts_as c.put-4.ensures (c.to_be_bytes-2.ensures ∙ four_out _ (search rules))) refl) refl) refl
