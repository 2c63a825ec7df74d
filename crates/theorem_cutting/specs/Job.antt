-- The session that the writer's records are for: a name is installed and selected, then the records.
use Rattle.std.specs.Prelude.{ℕ, ◌+◌, ◌*◌, ◌≤◌, ◌≡◌, Bool, true, List, [], ◌∷◌, ◌++◌, length, replicate}
use Rattle.lists.specs.Joined.{joined}
use Rattle.lists.specs.Bytes.{padded}
use Rattle.model.specs.declared.Card.{Card}
use Rattle.model.specs.declared.Chip.{Chip}
use Rattle.model.specs.declared.Life.{Life}
use Rattle.model.specs.Stored.{chip_of, chip_form, record_size, Event, event_in, record_of}
use Rattle.model.specs.Loads.{State}
use Rattle.model.specs.Rules.{Result, went, asked, failed}
use Rattle.model.specs.Command.{walk}
use Rattle.model.specs.Session.{Session}
use Rattle.model.specs.Order.{order_limit, challenged_state, complete, records_for}

-- the data of a record
abbrev pub data_in : List ℕ → List ℕ
data_in r = (event_in r).bytes

-- "package name, module name, instance name, each after its length byte, then fixed bytes"
abbrev pub names_data : List ℕ → List ℕ → List ℕ → List ℕ → List ℕ
names_data p m n tail = length p ∷ p ++ (length m ∷ m ++ (length n ∷ n ++ tail))

-- INSTALL '04' or '0C' of a package, a module and an instance name; INSTALL '08' and SELECT of an instance name
abbrev pub install_of : ℕ → List ℕ → List ℕ → List ℕ → Event
install_of p1 p m n = record {
  kind = 1;
  p1 = p1;
  bytes = names_data p m n (0x01 ∷ 0x00 ∷ 0x02 ∷ 0xC9 ∷ 0x00 ∷ 0x00 ∷ []);
}

abbrev pub selectable_of : List ℕ → Event
selectable_of n = record { kind = 1; p1 = 0x08; bytes = names_data [] [] n (0x01 ∷ 0x00 ∷ 0x00 ∷ 0x00 ∷ []) }

abbrev pub select_of : ℕ → List ℕ → Event
select_of p1 n = record { kind = 3; p1 = p1; bytes = n }

-- a name of 5 to 16 bytes
abbrev pub Name : List ℕ → Type 0
Name n = (5 ≤ length n) × (length n ≤ 16)

-- `Front n rs`: the records `rs` install the name `n`, at once or in two, and select it
pub data Front (n : List ℕ) : List (List ℕ) → Type 0 where
  at_once : (p m : List ℕ) (p1 : ℕ) → Name p → Name m → Name n
      → Front n (record_of (install_of 0x0C p m n) ∷ record_of (select_of p1 n) ∷ [])
  in_two : (p m : List ℕ) (p1 : ℕ) → Name p → Name m → Name n
      → Front n (record_of (install_of 0x04 p m n) ∷ record_of (selectable_of n) ∷ record_of (select_of p1 n) ∷ [])

-- What `cut` writes: 1TIC.PKG, 1TIC.MOD and 1TIC.ICA by '0C', SELECT with P1 '04'.
abbrev pub package_name : List ℕ
package_name = 0x31 ∷ 0x54 ∷ 0x49 ∷ 0x43 ∷ 0x2E ∷ 0x50 ∷ 0x4B ∷ 0x47 ∷ []

abbrev pub module_name : List ℕ
module_name = 0x31 ∷ 0x54 ∷ 0x49 ∷ 0x43 ∷ 0x2E ∷ 0x4D ∷ 0x4F ∷ 0x44 ∷ []

abbrev pub instance_name : List ℕ
instance_name = 0x31 ∷ 0x54 ∷ 0x49 ∷ 0x43 ∷ 0x2E ∷ 0x49 ∷ 0x43 ∷ 0x41 ∷ []

abbrev pub install_event : Event
install_event = install_of 0x0C package_name module_name instance_name

abbrev pub select_event : Event
select_event = select_of 0x04 instance_name

unfoldable pub install_record : List ℕ
install_record = record_of install_event

unfoldable pub select_record : List ℕ
select_record = record_of select_event

abbrev pub job_front : List (List ℕ)
job_front = install_record ∷ select_record ∷ []

-- these two, and then some records
unfoldable pub job_with : List (List ℕ) → List (List ℕ)
job_with records = job_front ++ records

-- as a session's bytes
abbrev pub session_of : List (List ℕ) → List ℕ
session_of records = joined (job_with records)

-- a life with a name
abbrev pub life_of : ℕ → Bool → List ℕ → Life
life_of gp selected n = record { gp = gp; selected = selected; name = padded 16 n; namelen = length n }

-- the card of a chip, with that name and selected, in a state of its loading part
abbrev pub job_card : Chip → List ℕ → State → Card
job_card chip n s = record { chip = chip; life = life_of 0x07 true n; loading = s.load }

abbrev pub state_of : {A : Type 0} → Result A → State
state_of (went a s) = s
state_of (asked t s) = s
state_of (failed w s) = s

-- where the order's walk ends, uncut
unfoldable pub uncut : ℕ → List ℕ → State
uncut capacity order = state_of (walk (length order) capacity (3 + length order) 0x00 order challenged_state)

-- a session of n events that a card takes: no refusal, each word '9000', and the card ends '07' and 'A5'
pub record Taken (n : ℕ) (x : Session) : Type 0 where
  pub number : x.number ≡ 0
  pub words : x.run.words ≡ replicate n 0x9000
  pub gp : x.run.card.life.gp ≡ 0x07
  pub internal : x.run.card.loading.running.internal ≡ 0xA5

-- what the writer asks: the chip record's form, an order of at most 8,192 bytes that is complete for that chip, and
-- room
pub record Accepted (chip order : List ℕ) (room : ℕ) : Type 0 where
  pub form : chip_form chip ≡ true
  pub short : length order ≤ order_limit
  pub complete_so : complete (chip_of chip).capacity order ≡ true
  pub room_so : length (records_for order) * record_size ≤ room
