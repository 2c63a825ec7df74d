-- Where the marked bytes go: secrets with each of them in its place.
use Rattle.std.specs.Prelude.{ℕ, zero, suc, List, [], ◌∷◌, get_or, set}
use Rattle.lists.specs.Bytes.{padded}
use Rattle.model.specs.declared.Secret.{Secret}
use Rattle.model.specs.Stored.{no_secret}
use Rattle.theorem_secrecy.specs.View.{Mark, seen, secret}

-- byte j of a secret comes: the first begins it anew, with zeros behind
abbrev pub with_byte : ℕ → ℕ → Secret → Secret
with_byte zero b x = record { bytes = padded 64 (b ∷ []); len = 1 }
with_byte (suc j) b x = record { bytes = set x.bytes (suc j) b; len = suc (suc j) }

abbrev pub kept_byte : Mark → ℕ → List Secret → List Secret
kept_byte seen b xs = xs
kept_byte (secret k j) b xs = set xs k (with_byte j b (get_or xs k no_secret))

-- bytes with their marks, one after another
unfoldable pub kept_by : List Mark → List ℕ → List Secret → List Secret
kept_by [] bytes xs = xs
kept_by (m ∷ ms) [] xs = xs
kept_by (m ∷ ms) (b ∷ bs) xs = kept_by ms bs (kept_byte m b xs)
