-- `calls::put_descriptor`: each run ends where the next begins (`puts_then`).
use Rattle.std.proofs.Common.{refl, ◌∙◌, arith, rules}
use Rattle.calls.proofs.Runs.{puts_then, puts_as}
use Rattle.calls.proofs.Numbers.{two_out}
use Rattle.calls.proofs.card_out.put_descriptor.Goals as goal

pub returns : goal.returns
returns c =
    puts_then (puts_as c.put.ensures (c.to_be_bytes.ensures ∙ two_out _ (search rules)))
    (puts_then c.put-2.ensures
    (puts_then c.put-3.ensures
    (puts_then c.put-4.ensures c.put-5.ensures (omega arith)) (omega arith)) (omega arith)) refl
