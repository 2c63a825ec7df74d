-- Cards by their parts, all of whose fields are filled with bytes that differ, and the replies that are asked of them.
use Prim.Native.Nat.{ℕ, ◌-◌}
use mathlib.Core.Bool.{Bool, true, false, ◌&&◌}
use mathlib.Core.List.{List, [], ◌∷◌, ◌++◌}
use lib.Dec.{eqb}
use lib.ListN.{length, replicate}
use Rattle.lists.specs.Bytes.{same, zeros}
use Rattle.model.specs.declared.Chip.{Chip}
use Rattle.model.specs.declared.Descriptor.{Descriptor}
use Rattle.model.specs.declared.Secret.{Secret}
use Rattle.model.specs.declared.Open.{Open}
use Rattle.model.specs.declared.Open.TheVariants.{Shut}
use Rattle.model.specs.declared.Running.{Running}
use Rattle.model.specs.declared.Life.{Life}
use Rattle.model.specs.declared.Loading.{Loading}
use Rattle.model.specs.declared.Card.{Card}
use Rattle.model.specs.Stored.{Event}
use Rattle.model.specs.Events.{event}
use Rattle.model.proofs.Scenes.{Bytes, name, df}
use Rattle.model.proofs.Tables.{rising, files_of, card_numbers, tabled}

unfoldable pub chip_made : Chip
chip_made =
    record { reference = rising 0x81 4; challenge = rising 0x91 16; traceability = rising 0xB1 16; capacity = 10 }

-- a life with a name of 8 bytes, and that of an absent card
abbrev pub life_in : ℕ → Bool → Life
life_in g sel = record { gp = g; selected = sel; name = name ++ zeros 8; namelen = 8 }

abbrev pub absent_life : Life
absent_life = record { gp = 0x00; selected = false; name = zeros 16; namelen = 0 }

abbrev pub secret_of : ℕ → ℕ → Secret
secret_of b n = record { bytes = replicate n b ++ zeros (64 - n); len = n }

unfoldable pub secrets_made : List Secret
secrets_made = secret_of 0xE1 1 ∷ secret_of 0xE2 16 ∷ secret_of 0xE3 64 ∷ secret_of 0xE4 3 ∷ secret_of 0xE5 4 ∷ []

-- how far, the held bytes, and a table of descriptors; no descriptor stands behind them
abbrev pub running_of : ℕ → ℕ → ℕ → Open → Running
running_of i rows last o = record { internal = i; rows = rows; last = last; pending = o }

abbrev pub blank_file : Descriptor
blank_file =
    record {
      lid = 0;
      sfi = 0;
      filetype = 0;
      eftype = 0;
      recsize = 0;
      numrec = 0;
      ac = zeros 4;
      nkey = zeros 4;
      refsfi = 0;
      refnum = 0;
      status = 0;
    }

unfoldable pub loading_of : Running → Bytes → List Bytes → Loading
loading_of p h fs =
    record {
      running = p;
      held = h;
      files = files_of fs ++ replicate (31 - length fs) blank_file;
      count = length fs;
      serial = rising 0x51 8;
      startup = rising 0x61 7;
      counter = 0x030201;
      secrets = secrets_made;
    }

abbrev pub card_of : Life → Loading → Card
card_of f l = record { chip = chip_made; life = f; loading = l }

-- a card with all mandatory rows and a DF, in a GP and an internal state, selected or not, nothing open
abbrev pub shut_in : ℕ → Loading
shut_in i = loading_of (running_of i 0x1F7 0x0801 Shut) (zeros 18) (df 0 ∷ [])

unfoldable pub card_in : ℕ → ℕ → Bool → Card
card_in g i sel = card_of (life_in g sel) (shut_in i)

unfoldable pub absent_card : Card
absent_card = card_of absent_life (shut_in 0xCC)

-- a file area of three bytes; no event but INSTALL and 'ssnn' changes it
abbrev pub small_area : Bytes
small_area = 0xF1 ∷ 0xF2 ∷ 0xF3 ∷ []

-- an event is answered by a word and bytes, and leaves this card and the area as it was
pub record Case : Type 0 where
  pub given : Event
  pub word : ℕ
  pub answer : Bytes
  pub left : Card

abbrev pub on : Event → ℕ → Card → Case
on e w c = record { given = e; word = w; answer = []; left = c }

abbrev pub gives : Event → ℕ → Bytes → Card → Case
gives e w b c = record { given = e; word = w; answer = b; left = c }

unfoldable pub replies : Card → List Case → Bool
replies c [] = true
replies c (x ∷ xs) =
    let r = event x.given c small_area in
    eqb r.word x.word && same r.answer x.answer && same (card_numbers r.card) (card_numbers x.left)
    && same r.area small_area && replies c xs

-- everything that computing these has to open
unfoldable pub carded : Unit {0}
unfolding tabled chip_made secrets_made loading_of card_in absent_card replies
carded = tt
