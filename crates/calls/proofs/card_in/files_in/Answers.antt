-- `calls::files_in`: after i turns the first i descriptors are those of `files_from`; at the end all 31 are.
use Rattle.std.proofs.Common.{◌≡◌, ◌≤◌, sym, refl, ◌∙◌, add-one, arith, take_all, take-suc-set, rules}
use Rattle.calls.specs.Cards.{files_from}
use Rattle.calls.proofs.card_in.files_in.Goals as goal

pub loop-i-init : goal.loop-i-init
unfolding files_from
loop-i-init c = (search rules, refl)

pub loop-i-preserved : goal.loop-i-preserved
unfolding files_from
loop-i-preserved c =
    let l = c.loop-i in
    let h : l.i ≤ 30 = search rules in (
      search rules,
      rw (add-one, take-suc-set l.d-items l.i _ (omega arith), l.invariant.1, c.descriptor_in.ensures),
    )

pub returns : goal.returns
returns c =
    let l = c.loop-i in
    let e : l.i ≡ 31 = search rules in
    sym (take_all 31 l.d-items (search rules)) ∙ (rw e at l.invariant.1)
