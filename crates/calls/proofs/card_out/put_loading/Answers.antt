-- `calls::put_loading`: each run ends where the next begins (`puts_then`).
use Rattle.std.proofs.Common.{refl}
use Rattle.calls.proofs.Runs.{puts_then}
use Rattle.calls.proofs.card_out.put_loading.Goals as goal

pub returns : goal.returns
returns c =
    let five = c in
    let four = five in
    let three = four in
    let two = three in
    let one = two in
    puts_then one.put_running.ensures
    (puts_then two.put.ensures
    (puts_then three.put_files.ensures
    (puts_then four.put_facts.ensures
    five.put_secrets.ensures refl) refl) refl) refl
