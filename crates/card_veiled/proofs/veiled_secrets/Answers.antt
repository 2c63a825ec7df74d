-- `card_veiled::veiled_secrets`: the five, each veiled, are the secrets veiled (`five_veiled`).
use mathlib.Core.Path.{◌≡◌}
use lib.ListN.{length}
use borrow.Author.Rules.{rules}
use Rattle.card_veiled.proofs.Blotted.{five_veiled}
use Rattle.card_veiled.proofs.veiled_secrets.Goals.{Start}
use Rattle.card_veiled.proofs.veiled_secrets.Goals as goal

five : (s : Start) → length s.args.s ≡ 5
five s = search rules

pub returns : goal.returns
returns c =
    let b = c in
    let start = b in
    rw (
      b.veiled_secret.ensures,
      b.veiled_secret-2.ensures,
      b.veiled_secret-3.ensures,
      c.veiled_secret-4.ensures,
      c.veiled_secret-5.ensures,
    )
    (five_veiled _ start.args.s (five (goal.at.returns c).Start))
