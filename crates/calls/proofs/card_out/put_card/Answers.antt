-- `calls::put_card`: three runs, each where the one before ends (`puts_then`), and no byte is left (`puts_all`).
use Rattle.std.proofs.Common.{refl}
use Rattle.calls.specs.Stores.{card_bytes}
use Rattle.calls.proofs.Runs.{puts_then, puts_all}
use Rattle.calls.proofs.card_out.put_card.Goals as goal

pub returns : goal.returns
unfolding card_bytes
returns c =
    let three = c in
    let two = three in
    let one = two in
    puts_all
    (puts_then one.put_chip.ensures (puts_then two.put_life.ensures three.put_loading.ensures refl) refl)
    one.requires
