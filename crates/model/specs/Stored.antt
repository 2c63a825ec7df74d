-- "Stored forms": the chip record, the fresh card, the event record, the lent memory.
use Rattle.std.specs.Prelude.{ℕ, ◌+◌, ◌-◌, Bool, false, ◌&&◌, List, ◌∷◌, ◌++◌, eqb, leb, length, drop, replicate}
use Rattle.lists.specs.Bytes.{byte_at, part, zeros, all_zero}
use Rattle.model.specs.declared.Chip.{Chip}
use Rattle.model.specs.declared.Descriptor.{Descriptor}
use Rattle.model.specs.declared.Secret.{Secret}
use Rattle.model.specs.declared.Open.TheVariants.{Shut}
use Rattle.model.specs.declared.Life.{Life}
use Rattle.model.specs.declared.Loading.{Loading}
use Rattle.model.specs.declared.Card.{Card}

-- "Chip record, 40 bytes: application reference 4, challenge 16, traceability 16 (ours: opaque), session capacity 1,
-- three zero bytes."
abbrev pub chip_size : ℕ
chip_size = 40

unfoldable pub chip_of : List ℕ → Chip
chip_of b = record {
  reference = part b 0 4;
  challenge = part b 4 16;
  traceability = part b 20 16;
  capacity = byte_at b
      36;
}

-- a record that number 7 does not refuse
unfoldable pub chip_form : List ℕ → Bool
chip_form b = eqb (length b) chip_size && all_zero (drop 37 b)

-- what stands where no descriptor and no secret does
abbrev pub no_file : Descriptor
no_file = record {
  lid = 0;
  sfi = 0;
  filetype = 0;
  eftype = 0;
  recsize = 0;
  numrec = 0;
  ac = zeros 4;
  nkey = zeros 4;
  refsfi = 0;
  refnum = 0;
  status = 0;
}

abbrev pub no_secret : Secret
no_secret = record { bytes = zeros 64; len = 0 }

-- "A fresh card is made from it: absent (GP '00'), internal 'CC', counter 200,000, all else zero."
abbrev pub fresh_loading : Loading
fresh_loading = record {
  running = record { internal = 0xCC; rows = 0; last = 0; pending = Shut };
  held = zeros 18;
  files = replicate 31 no_file;
  count = 0;
  serial = zeros 8;
  startup = zeros 7;
  counter = 200000;
  secrets = replicate 5 no_secret;
}

abbrev pub fresh_life : Life
fresh_life = record { gp = 0x00; selected = false; name = zeros 16; namelen = 0 }

unfoldable pub fresh_card : Chip → Card
fresh_card c = record { chip = c; life = fresh_life; loading = fresh_loading }

-- "Event record, 260 bytes: kind, P1, P2, length n, 255 data bytes, one zero byte." P2 is never read.
abbrev pub record_size : ℕ
record_size = 260

abbrev pub data_room : ℕ
data_room = 255

pub record Event : Type 0 where
  pub kind : ℕ
  pub p1 : ℕ
  pub bytes : List ℕ

abbrev pub event_in : List ℕ → Event
event_in r = record { kind = byte_at r 0; p1 = byte_at r 1; bytes = part r 4 (byte_at r 3) }

-- "Kinds: 1 INSTALL, 2 STORE DATA, 3 SELECT, 4 another command, 5 DESELECT, 6 RESET, 7 LOCK, 8 UNLOCK."
abbrev pub is_kind : ℕ → Bool
is_kind k = leb 1 k && leb k 8

-- "Data bytes past n are zero", and so is the last byte
unfoldable pub padded_zero : List ℕ → Bool
padded_zero r = all_zero (drop (4 + byte_at r 3) r)

-- an event as it is stored, P2 '00'
unfoldable pub record_of : Event → List ℕ
record_of e = e.kind ∷ e.p1 ∷ 0 ∷ length e.bytes ∷ e.bytes ++ zeros (256 - length e.bytes)

-- "File area: exactly 4,096 lent bytes. Answer buffer: at least 64 bytes."
abbrev pub area_size : ℕ
area_size = 4096

abbrev pub answer_room : ℕ
answer_room = 64
