-- `calls::put_secrets`: after i turns the first i secrets are laid, 72 bytes each (`puts_next`).
use Rattle.std.proofs.Common.{◌≡◌, length, take, sym, refl, arith, take_all, rules}
use Rattle.lists.specs.Over.{over_none}
use Rattle.calls.specs.Stores.{secret_bytes, secrets_bytes}
use Rattle.calls.proofs.Runs.{puts_next, secrets_more}
use Rattle.calls.proofs.card_out.put_secrets.Goals as goal

pub loop-i-init : goal.loop-i-init
unfolding secrets_bytes
loop-i-init c = (search rules, sym (over_none _ _), refl)

pub loop-i-preserved : goal.loop-i-preserved
loop-i-preserved c =
    let d = c in
    let l = d.loop-i in
    let s = d.args.secrets in
    let h : length s ≡ 5 = search rules in
    let r = puts_next secret_bytes secrets_bytes secrets_more 690 72 s l.i _ (omega arith)
    (record { laid = l.invariant.1; long = l.invariant.2 }) d.put_secret.ensures in
    (search rules, r.laid, omega (arith, r.long))

pub returns : goal.returns
returns c =
    let l = c.loop-i in
    let s = c.args.secrets in
    let e : l.i ≡ 5 = search rules in
    let h : length s ≡ 5 = search rules in
    let t : take l.i s ≡ s = rw e (take_all 5 s (omega arith)) in
    record { laid = rw t at l.invariant.1; long = omega (arith, rw t at l.invariant.2) }
