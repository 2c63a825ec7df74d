-- `calls::put_files`: after i turns the first i descriptors are laid, 18 bytes each (`puts_next`).
use Rattle.std.proofs.Common.{◌≡◌, length, take, sym, refl, arith, take_all, rules}
use Rattle.lists.specs.Over.{over_none}
use Rattle.calls.specs.Stores.{descriptor_bytes, files_bytes}
use Rattle.calls.proofs.Runs.{puts_next, files_more}
use Rattle.calls.proofs.card_out.put_files.Goals as goal

pub loop-i-init : goal.loop-i-init
unfolding files_bytes
loop-i-init c = (search rules, sym (over_none _ _), refl)

pub loop-i-preserved : goal.loop-i-preserved
loop-i-preserved c =
    let d = c in
    let l = d.loop-i in
    let s = d.args.files in
    let h : length s ≡ 31 = search rules in
    let r = puts_next descriptor_bytes files_bytes files_more 105 18 s l.i _ (omega arith)
    (record { laid = l.invariant.1; long = l.invariant.2 }) d.put_descriptor.ensures in
    (search rules, r.laid, omega (arith, r.long))

pub returns : goal.returns
returns c =
    let l = c.loop-i in
    let s = c.args.files in
    let e : l.i ≡ 31 = search rules in
    let h : length s ≡ 31 = search rules in
    let t : take l.i s ≡ s = rw e (take_all 31 s (omega arith)) in
    record { laid = rw t at l.invariant.1; long = omega (arith, rw t at l.invariant.2) }
