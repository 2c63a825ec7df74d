-- The 1,050 bytes that a card is stored as, part by part in their order.
use Rattle.std.specs.Prelude.{◌≡◌, ℕ, cond, List, [], ◌∷◌, ◌++◌, length}
use Rattle.lists.specs.Over.{overwrite}
use Rattle.model.specs.declared.Card.{Card}
use Rattle.model.specs.declared.Chip.{Chip}
use Rattle.model.specs.declared.Descriptor.{Descriptor}
use Rattle.model.specs.declared.Life.{Life}
use Rattle.model.specs.declared.Loading.{Loading}
use Rattle.model.specs.declared.Open.{Open}
use Rattle.model.specs.declared.Open.TheVariants.{Shut, Table, Record}
use Rattle.model.specs.declared.Running.{Running}
use Rattle.model.specs.declared.Secret.{Secret}
use Rattle.calls.specs.Numbers.{two_of, four_of, eight_of}

-- n bytes are laid from a place on, and nothing else changes
pub record Puts (before : List ℕ) (at : ℕ) (xs : List ℕ) (n : ℕ) (after : List ℕ) : Type 0 where
  pub laid : after ≡ overwrite before at xs
  pub long : length xs ≡ n

abbrev pub chip_bytes : Chip → List ℕ
chip_bytes k = k.reference ++ (k.challenge ++ (k.traceability ++ k.capacity ∷ []))

abbrev pub life_bytes : Life → List ℕ
life_bytes l = l.gp ∷ cond l.selected 1 0 ∷ (l.name ++ eight_of l.namelen)

-- an open value: its byte, its tag, how many bytes are there and how many are missing
abbrev pub span_bytes : ℕ → ℕ → ℕ → ℕ → List ℕ
span_bytes kind tag n missing = kind ∷ (two_of tag ++ (eight_of n ++ eight_of missing))

abbrev pub open_bytes : Open → List ℕ
open_bytes Shut = span_bytes 0 0 0 0
open_bytes (Table n missing) = span_bytes 1 0 n missing
open_bytes (Record tag n missing) = span_bytes 2 tag n missing

abbrev pub running_bytes : Running → List ℕ
running_bytes p = p.internal ∷ (two_of p.rows ++ (two_of p.last ++ open_bytes p.pending))

-- "18 bytes each: LID 2, SFI, FileType, EFType, RecSize, NumRec, AC 4, NKey 4, DataRef 2, DFStatus."
abbrev pub descriptor_bytes : Descriptor → List ℕ
descriptor_bytes d =
    two_of d.lid ++ (d.sfi ∷ d.filetype ∷ d.eftype ∷ d.recsize ∷ d.numrec ∷ (d.ac ++ (d.nkey
    ++ d.refsfi ∷ d.refnum ∷ d.status ∷ [])))

unfoldable pub files_bytes : List Descriptor → List ℕ
files_bytes [] = []
files_bytes (d ∷ ds) = descriptor_bytes d ++ files_bytes ds

abbrev pub secret_bytes : Secret → List ℕ
secret_bytes s = s.bytes ++ eight_of s.len

unfoldable pub secrets_bytes : List Secret → List ℕ
secrets_bytes [] = []
secrets_bytes (s ∷ ss) = secret_bytes s ++ secrets_bytes ss

abbrev pub facts_bytes : Loading → List ℕ
facts_bytes l = eight_of l.count ++ (l.serial ++ (l.startup ++ four_of l.counter))

abbrev pub loading_bytes : Loading → List ℕ
loading_bytes l =
    running_bytes l.running ++ (l.held ++ (files_bytes l.files ++ (facts_bytes l ++ secrets_bytes l.secrets)))

unfoldable pub card_bytes : Card → List ℕ
card_bytes c = chip_bytes c.chip ++ (life_bytes c.life ++ loading_bytes c.loading)
