-- `calls::put_life`: each run ends where the next begins (`puts_then`).
use Rattle.std.proofs.Common.{ℕ, ◌∷◌, [], ap, refl, ◌∙◌, rules}
use Rattle.calls.proofs.Runs.{puts_then, puts_as}
use Rattle.calls.proofs.Numbers.{eight_out, flag_is}
use Rattle.calls.proofs.card_out.put_life.Goals as goal

pub returns : goal.returns
returns c =
    puts_then c.put.ensures
    (puts_then (puts_as c.put-2.ensures (ap (λ (x : ℕ). x ∷ []) (flag_is c.args.life.selected)))
    (puts_then c.put-3.ensures
    (puts_as c.put-4.ensures (c.to_be_bytes.ensures ∙ eight_out _ (search rules))) refl) refl) refl
