-- `calls::put_chip`: each run ends where the next begins (`puts_then`).
use Rattle.std.proofs.Common.{refl}
use Rattle.calls.proofs.Runs.{puts_then}
use Rattle.calls.proofs.card_out.put_chip.Goals as goal

pub returns : goal.returns
returns c =
    puts_then c.put.ensures (puts_then c.put-2.ensures (puts_then c.put-3.ensures c.put-4.ensures refl) refl) refl
