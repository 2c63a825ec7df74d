-- The card that 1,050 stored bytes are.
use Rattle.std.specs.Prelude.{ℕ, zero, suc, ◌+◌, ◌*◌, cond, not, List, [], ◌∷◌, ◌++◌, ◌==◌}
use Rattle.lists.specs.Bytes.{byte_at, word_at, part}
use Rattle.model.specs.declared.Card.{Card}
use Rattle.model.specs.declared.Descriptor.{Descriptor}
use Rattle.model.specs.declared.Life.{Life}
use Rattle.model.specs.declared.Loading.{Loading}
use Rattle.model.specs.declared.Open.{Open}
use Rattle.model.specs.declared.Open.TheVariants.{Shut, Table, Record}
use Rattle.model.specs.declared.Running.{Running}
use Rattle.model.specs.declared.Secret.{Secret}
use Rattle.model.specs.Stored.{chip_of}
use Rattle.model.specs.Table.{descriptor_of}
use Rattle.calls.specs.Numbers.{four_at, eight_at}

abbrev pub life_from : List ℕ → Life
life_from b = record {
  gp = byte_at b 37;
  selected = not (byte_at b 38 == 0);
  name = part b 39 16;
  namelen = eight_at b 55;
}

-- an open value by its byte, its tag, how many bytes are there and how many are missing
abbrev pub open_of : ℕ → ℕ → ℕ → ℕ → Open
open_of kind tag n missing = cond (kind == 1) (Table n missing) (cond (kind == 2) (Record tag n missing) Shut)

abbrev pub open_from : List ℕ → Open
open_from b = open_of (byte_at b 68) (word_at b 69) (eight_at b 71) (eight_at b 79)

abbrev pub running_from : List ℕ → Running
running_from b = record {
  internal = byte_at b 63;
  rows = word_at b 64;
  last = word_at b 66;
  pending = open_from b;
}

-- the descriptor at a place, and the first n of the table
abbrev pub descriptor_from : List ℕ → ℕ → Descriptor
descriptor_from b at = descriptor_of (part b at 18)

unfoldable pub files_from : ℕ → List ℕ → List Descriptor
files_from zero b = []
files_from (suc n) b = files_from n b ++ descriptor_from b (105 + 18 * n) ∷ []

-- the secret at a place, and the five
abbrev pub secret_from : List ℕ → ℕ → Secret
secret_from b at = record { bytes = part b at 64; len = eight_at b (at + 64) }

abbrev pub secrets_from : List ℕ → List Secret
secrets_from b =
    secret_from b 690 ∷ secret_from b 762 ∷ secret_from b 834 ∷ secret_from b 906 ∷ secret_from b 978 ∷ []

abbrev pub loading_from : List ℕ → Loading
loading_from b = record {
  running = running_from b;
  held = part b 87 18;
  files = files_from 31 b;
  count = eight_at b 663;
  serial = part b 671 8;
  startup = part b 679 7;
  counter = four_at b 686;
  secrets = secrets_from b;
}

unfoldable pub card_from : List ℕ → Card
card_from b = record { chip = chip_of b; life = life_from b; loading = loading_from b }
