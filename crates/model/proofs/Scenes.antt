-- Bytes and events that the examples are made of, and what is asked of a session of them.
use Prim.Native.Nat.{ℕ}
use mathlib.Core.Bool.{Bool, true, ◌&&◌}
use mathlib.Core.List.{List, [], ◌∷◌, ◌++◌}
use lib.Dec.{eqb}
use lib.ListN.{length, get_or, replicate}
use Rattle.lists.specs.Bytes.{part, same, zeros}
use Rattle.model.specs.declared.Card.{Card}
use Rattle.model.specs.Stored.{Event, record_of, chip_of, fresh_card, area_size, answer_room}
use Rattle.model.specs.Session.{Turn, refused_by, play_of}

abbrev pub Bytes : Type 0
Bytes = List ℕ

-- a chip record of a capacity
unfoldable pub chip : ℕ → Bytes
chip capacity =
    0xC0 ∷ 0xC1 ∷ 0xC2 ∷ 0xC3 ∷ replicate 16 0xD0 ++ replicate 16 0xE0 ++ capacity ∷ 0 ∷ 0 ∷ 0 ∷ []

unfoldable pub blank_card : ℕ → Card
blank_card capacity = fresh_card (chip_of (chip capacity))

-- events
abbrev pub event : ℕ → ℕ → Bytes → Event
event k p b = record { kind = k; p1 = p; bytes = b }

abbrev pub name : Bytes
name = 0x31 ∷ 0x54 ∷ 0x49 ∷ 0x43 ∷ 0x2E ∷ 0x49 ∷ 0x43 ∷ 0x41 ∷ []

unfoldable pub install_data : Bytes
install_data =
    8 ∷ 0x31 ∷ 0x54 ∷ 0x49 ∷ 0x43 ∷ 0x2E ∷ 0x50 ∷ 0x4B ∷ 0x47
    ∷ 8 ∷ 0x31 ∷ 0x54 ∷ 0x49 ∷ 0x43 ∷ 0x2E ∷ 0x4D ∷ 0x4F ∷ 0x44
    ∷ 8 ∷ name ++ 0x01 ∷ 0x00 ∷ 0x02 ∷ 0xC9 ∷ 0x00 ∷ 0x00 ∷ []

unfoldable pub selectable_data : Bytes
selectable_data = 0 ∷ 0 ∷ 8 ∷ name ++ 0x01 ∷ 0x00 ∷ 0x00 ∷ 0x00 ∷ []

abbrev pub install : ℕ → Event
install p1 = event 1 p1 install_data

abbrev pub select : Event
select = event 3 0 name

abbrev pub command : ℕ → Bytes → Event
command p1 b = event 2 p1 b

-- groupings
abbrev pub challenge : Bytes
challenge = 0x94 ∷ 0x84 ∷ 0x00 ∷ []

abbrev pub traceability : Bytes
traceability = 0x81 ∷ 0x85 ∷ 0x00 ∷ []

abbrev pub status : Bytes
status = 0x84 ∷ 0xF2 ∷ 0x00 ∷ []

abbrev pub serial : Bytes
serial = 0x20 ∷ 0x00 ∷ 8 ∷ 0xA1 ∷ 0xA2 ∷ 0xA3 ∷ 0xA4 ∷ 0xA5 ∷ 0xA6 ∷ 0xA7 ∷ 0xA8 ∷ []

-- '2100' that asks for so much
abbrev pub startup : ℕ → Bytes
startup n = 0x21 ∷ 0x00 ∷ 7 ∷ n ∷ 1 ∷ 2 ∷ 3 ∷ 4 ∷ 0 ∷ 0 ∷ []

abbrev pub counter : Bytes
counter = 0x22 ∷ 0x00 ∷ 3 ∷ 0x01 ∷ 0x02 ∷ 0x03 ∷ []

-- '3800' or '410n' with n bytes
abbrev pub key : ℕ → ℕ → ℕ → Bytes
key hi lo n = hi ∷ lo ∷ n ∷ replicate n 0x5C

abbrev pub table : Bytes → Bytes
table ds = 0x31 ∷ 0x00 ∷ length ds ∷ ds

-- descriptors
abbrev pub df : ℕ → Bytes
df st = 0x3F ∷ 0x00 ∷ 0 ∷ 0x02 ∷ 0x00 ∷ 0 ∷ 0 ∷ 0x00 ∷ 0x10 ∷ 0x01 ∷ 0x1F ∷ 0 ∷ 3 ∷ 0 ∷ 0 ∷ 0 ∷ 0 ∷ st ∷ []

-- an EF of an SFI, a type, two sizes and a DataRef; its LID is 20 and the SFI
abbrev pub ef : ℕ → ℕ → ℕ → ℕ → ℕ → ℕ → Bytes
ef s t z n rs rn = 0x20 ∷ s ∷ s ∷ 0x04 ∷ t ∷ z ∷ n ∷ 0x1F ∷ 0x10 ∷ 0x01 ∷ 0x00 ∷ 0 ∷ 1 ∷ 0 ∷ 0 ∷ rs ∷ rn ∷ 0 ∷ []

-- linear, SFI '08', 29 x 3
abbrev pub linear : Bytes
linear = ef 0x08 0x02 29 3 0 0

-- installed and selected; then the challenge given
abbrev pub begun : List Event → List Event
begun es = install 0x0C ∷ select ∷ es

abbrev pub asked : List Event → List Event
asked es = begun (command 0x01 challenge ∷ es)

abbrev pub loads : Bytes → List Event
loads b = asked (command 0x00 b ∷ [])

-- all that is mandatory, with one table
abbrev pub keys : Bytes
keys = key 0x38 0x00 16 ++ key 0x41 0x01 16 ++ key 0x41 0x02 16 ++ key 0x41 0x03 16

abbrev pub loaded : Bytes → Bytes
loaded t = serial ++ startup 10 ++ table t ++ keys

-- the turns of a session of a fresh card, one by one
unfoldable pub turns_from : Card → Bytes → List Event → List Turn
turns_from c a [] = []
turns_from c a (e ∷ es) = let t = play_of c a answer_room (record_of e) in t ∷ turns_from t.card t.area es

unfoldable pub turns : ℕ → List Event → List Turn
turns capacity es = turns_from (blank_card capacity) (zeros area_size) es

unfoldable pub words_in : List Turn → List ℕ
words_in [] = []
words_in (t ∷ ts) = t.word ∷ words_in ts

unfoldable pub end_or : Turn → List Turn → Turn
end_or d [] = d
end_or d (t ∷ ts) = end_or t ts

unfoldable pub end_of : List Turn → Turn
end_of ts = end_or (refused_by 0 (blank_card 0) []) ts

-- what may be asked of a session
pub data Claim : Type 0 where
  words : List ℕ → Claim
  ends : ℕ → ℕ → Claim
  rows : ℕ → Claim
  answer : Bytes → Claim
  starts : Bytes → Claim
  count : ℕ → Claim
  secret : ℕ → ℕ → Bytes → Claim
  descriptors : ℕ → Claim
  stored : ℕ → Bytes → Claim
  number : ℕ → Claim

unfoldable pub holds : Claim → List Turn → Turn → Bool
holds (words ws) ts t = same (words_in ts) ws
holds (ends g i) ts t = eqb t.card.life.gp g && eqb t.card.loading.running.internal i
holds (rows r) ts t = eqb t.card.loading.running.rows r
holds (answer b) ts t = same t.answer b
holds (starts b) ts t = same t.card.loading.startup b
holds (count n) ts t = eqb t.card.loading.counter n
holds (secret i n b) ts t =
    let x = get_or t.card.loading.secrets i (record { bytes = []; len = 0 }) in eqb x.len n && same x.bytes b
holds (descriptors n) ts t = eqb t.card.loading.count n
holds (stored at b) ts t = same (part t.area at (length b)) b
holds (number n) ts t = eqb t.number n

unfoldable pub all_hold : List Claim → List Turn → Turn → Bool
all_hold [] ts t = true
all_hold (x ∷ xs) ts t = holds x ts t && all_hold xs ts t

unfoldable pub shows : ℕ → List Event → List Claim → Bool
shows capacity es xs = let ts = turns capacity es in all_hold xs ts (end_of ts)

-- a session's bytes, as the programs read them
unfoldable pub records_of : List Event → Bytes
records_of [] = []
records_of (e ∷ es) = record_of e ++ records_of es
