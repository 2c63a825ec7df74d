-- Shapes of the tables of witnesses: claims that all hold, and what the definition says as plain numbers to compare.
use Prim.Native.Nat.{ℕ, zero, suc}
use mathlib.Core.Bool.{Bool, true, cond, ◌&&◌}
use mathlib.Core.List.{List, [], ◌∷◌, ◌++◌}
use lib.ListN.{set}
use Rattle.model.specs.declared.Chip.{Chip}
use Rattle.model.specs.declared.Descriptor.{Descriptor}
use Rattle.model.specs.declared.Secret.{Secret}
use Rattle.model.specs.declared.Open.{Open}
use Rattle.model.specs.declared.Open.TheVariants.{Shut, Table, Record}
use Rattle.model.specs.declared.Life.{Life}
use Rattle.model.specs.declared.Loading.{Loading}
use Rattle.model.specs.declared.Card.{Card}
use Rattle.model.specs.declared.Row.{Row}
use Rattle.model.specs.declared.Header.{Header}
use Rattle.model.specs.declared.Header.TheVariants.{Torn, Whole}
use Rattle.model.specs.declared.Spot.{Spot}
use Rattle.model.specs.declared.Spot.TheVariants.{Nowhere, At}
use Rattle.model.specs.declared.Verdict.{Verdict}
use Rattle.model.specs.declared.Verdict.TheVariants.{Passes, Refuses}
use Rattle.model.specs.declared.Pulled.{Pulled}
use Rattle.model.specs.declared.Pulled.TheVariants.{Ended, Broken, Grouping}
use Rattle.model.specs.Table.{descriptor_of}
use Rattle.model.proofs.Computed.{computed}
use Rattle.model.proofs.Scenes.{Bytes}

-- every claim of a table holds
unfoldable pub every : List Bool → Bool
every [] = true
every (x ∷ xs) = x && every xs

-- n bytes that count up from a
unfoldable pub rising : ℕ → ℕ → Bytes
rising a zero = []
rising a (suc n) = a ∷ rising (suc a) n

-- bytes with one of them changed
abbrev pub but : ℕ → ℕ → Bytes → Bytes
but i b bytes = set bytes i b

-- true is 1
abbrev pub truth : Bool → ℕ
truth b = cond b 1 0

abbrev pub row_numbers : Row → List ℕ
row_numbers r = r.first ∷ r.last ∷ truth r.mandatory ∷ truth r.spans ∷ r.least ∷ r.most ∷ r.step ∷ []

-- torn: none
abbrev pub header_numbers : Header → List ℕ
header_numbers Torn = []
header_numbers (Whole h) = h.tag ∷ h.size ∷ h.len ∷ []

abbrev pub spot_numbers : Spot → List ℕ
spot_numbers Nowhere = []
spot_numbers (At base size) = base ∷ size ∷ []

-- what it passes with, or the word that it refuses by
abbrev pub verdict_number : Verdict → ℕ
verdict_number (Passes n) = n
verdict_number (Refuses w) = w

-- 0: at or past the end; 1: not whole; else 2 and the grouping
abbrev pub pulled_numbers : Pulled → List ℕ
pulled_numbers Ended = 0 ∷ []
pulled_numbers Broken = 1 ∷ []
pulled_numbers (Grouping tag start len) = 2 ∷ tag ∷ start ∷ len ∷ []

-- 0: nothing open; 1: '3100', held and missing; 2: 'ssnn', its tag, written and missing
abbrev pub open_numbers : Open → List ℕ
open_numbers Shut = 0 ∷ []
open_numbers (Table held missing) = 1 ∷ held ∷ missing ∷ []
open_numbers (Record tag written missing) = 2 ∷ tag ∷ written ∷ missing ∷ []

abbrev pub file_numbers : Descriptor → List ℕ
file_numbers d =
    d.lid ∷ d.sfi ∷ d.filetype ∷ d.eftype ∷ d.recsize ∷ d.numrec ∷ d.ac ++ d.nkey ++ d.refsfi ∷ d.refnum
    ∷ d.status ∷ []

unfoldable pub files_of : List Bytes → List Descriptor
files_of [] = []
files_of (b ∷ bs) = descriptor_of b ∷ files_of bs

unfoldable pub files_numbers : List Descriptor → List ℕ
files_numbers [] = []
files_numbers (d ∷ ds) = file_numbers d ++ files_numbers ds

unfoldable pub secrets_numbers : List Secret → List ℕ
secrets_numbers [] = []
secrets_numbers (x ∷ xs) = x.len ∷ x.bytes ++ secrets_numbers xs

-- the parts of a card, each field behind the other
unfoldable pub chip_numbers : Chip → List ℕ
chip_numbers c = c.reference ++ c.challenge ++ c.traceability ++ c.capacity ∷ []

unfoldable pub life_numbers : Life → List ℕ
life_numbers f = f.gp ∷ truth f.selected ∷ f.name ++ f.namelen ∷ []

unfoldable pub loading_numbers : Loading → List ℕ
loading_numbers l =
    l.running.internal ∷ l.running.rows ∷ l.running.last ∷ open_numbers l.running.pending
    ++ l.held ++ files_numbers l.files ++ l.count ∷ l.serial ++ l.startup ++ l.counter
    ∷ secrets_numbers l.secrets

unfoldable pub card_numbers : Card → List ℕ
card_numbers c = chip_numbers c.chip ++ life_numbers c.life ++ loading_numbers c.loading

-- everything that computing a table has to open
unfoldable pub tabled : Unit {0}
unfolding computed every rising files_of files_numbers secrets_numbers chip_numbers life_numbers loading_numbers
    card_numbers
tabled = tt
