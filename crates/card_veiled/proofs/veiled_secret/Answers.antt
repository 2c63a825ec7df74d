-- `card_veiled::veiled_secret`: an array of 64 zeros is what every byte of a secret is blotted to.
use mathlib.Core.Path.{◌≡◌}
use lib.ListN.{length}
use borrow.Author.Rules.{rules}
use Rattle.card_veiled.proofs.Blotted.{secret_veiled}
use Rattle.card_veiled.proofs.veiled_secret.Goals as goal

pub returns : goal.returns
returns c =
    let long : length c.args.s.bytes ≡ 64 = search rules in
    secret_veiled c.args.s long
