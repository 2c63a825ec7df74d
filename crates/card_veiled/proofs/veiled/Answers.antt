-- `card_veiled::veiled`: the card with its secrets veiled, and nothing else changed.
use mathlib.Core.Path.{ap}
use mathlib.Core.List.{List}
use Rattle.model.specs.declared.Secret.{Secret}
use Rattle.theorem_secrecy.specs.Veil.{with_secrets}
use Rattle.card_veiled.proofs.veiled.Goals as goal

pub returns : goal.returns
returns c =
    let s = c.args.c in
    ap (λ (xs : List Secret). record { chip = s.chip; life = s.life; loading = with_secrets xs s.loading })
    c.veiled_secrets-veils.ensures
