-- A witness for each status word of document 01 and for each number 1 to 11, computed: no refusal of the definition
-- is out of reach.
use Prim.Native.Nat.{ℕ}
use mathlib.Core.Bool.{Bool, true, ◌&&◌}
use mathlib.Core.List.{List, [], ◌∷◌, ◌++◌}
use lib.Dec.{T, eqb}
use lib.ListN.{length}
use Rattle.lists.specs.Bytes.{zeros, same}
use Rattle.model.specs.declared.Card.{Card}
use Rattle.model.specs.Stored.{area_size, Event, record_of}
use Rattle.model.specs.Session.{fresh_of, play_of, run_of, shown_of}
use Rattle.model.specs.Order.{write_of}
use Rattle.model.proofs.Computed.{computed}
use Rattle.model.proofs.Scenes.{Bytes, chip, blank_card, event, selectable_data, install, select, command}
use Rattle.model.proofs.Scenes.{traceability, status, serial, startup, table, df, ef, linear, begun, asked}
use Rattle.model.proofs.Scenes.{loads, loaded, turns, end_of}

-- a session that a fresh card of capacity 10 ends with a word, in a pair of states
pub record Last : Type 0 where
  pub session : List Event
  pub word : ℕ
  pub gp : ℕ
  pub internal : ℕ

abbrev pub last : ℕ → ℕ → ℕ → List Event → Last
last w g i es = record { session = es; word = w; gp = g; internal = i }

abbrev pub personalized : List Event
personalized = asked (command 0x80 (loaded (df 0 ++ linear)) ∷ [])

abbrev pub invalid : List Event
invalid = asked (command 0x80 (loaded (df 1 ++ linear)) ∷ [])

-- the events of document 01's words, one by one
unfoldable pub lasts : List Last
lasts =
    last 0x9000 0x03 0xCC (install 0x04 ∷ [])
    ∷ last 0x9000 0x07 0xCC (install 0x04 ∷ event 1 0x08 selectable_data ∷ [])
    ∷ last 0x9000 0x07 0xA5 personalized
    ∷ last 0x9000 0x07 0xA5 (personalized ++ select ∷ [])
    ∷ last 0x6283 0x07 0xA5 (invalid ++ select ∷ [])
    ∷ last 0x6283 0x87 0x5A (asked (command 0x00 serial ∷ select ∷ []))
    ∷ last 0x6700 0x07 0xCC (begun (command 0x00 [] ∷ []))
    ∷ last 0x6700 0x87 0x5A (asked (command 0x00 serial ∷ command 0x00 [] ∷ []))
    ∷ last 0x6985 0x07 0xCC (install 0x0C ∷ install 0x0C ∷ [])
    ∷ last 0x6985 0x07 0xA5 (personalized ++ command 0x00 serial ∷ [])
    ∷ last 0x6985 0x87 0x5A
    (asked (command 0x00 (loaded (df 0 ++ linear) ++ 0x08 ∷ 0x01 ∷ 0x00 ∷ 0x08 ∷ 0x01 ∷ 0x00 ∷ []) ∷ []))
    ∷ last 0x6A80 0x00 0xCC (event 1 0x0C selectable_data ∷ [])
    ∷ last 0x6A80 0x07 0xCC (begun (command 0x01 (status ++ 0x00 ∷ []) ∷ []))
    ∷ last 0x6A82 0x03 0xCC (install 0x04 ∷ select ∷ [])
    ∷ last 0x6A82 0x87 0x5A (asked (command 0x00 serial ∷ event 3 0 (0x01 ∷ []) ∷ []))
    ∷ last 0x6A84 0x87 0x5A (loads (serial ++ startup 10 ++ table (df 0 ++ ef 0x01 0x01 0x10 0x01 0 0)))
    ∷ last 0x6A86 0x00 0xCC (install 0x0D ∷ [])
    ∷ last 0x6A86 0x07 0xCC (begun (command 0x81 traceability ∷ []))
    ∷ last 0x6A88 0x00 0xCC (event 7 0 [] ∷ [])
    ∷ last 0x6A88 0x87 0x5A (loads (serial ++ startup 10 ++ 0x50 ∷ 0x00 ∷ 0x00 ∷ []))
    ∷ last 0x6A88 0x87 0x5A
    (asked (command 0x00 (loaded (df 0 ++ linear)) ∷ command 0x00 (0x08 ∷ 0x04 ∷ 0x00 ∷ []) ∷ []))
    ∷ last 0x6D00 0x07 0xCC (begun (event 4 0 [] ∷ []))
    ∷ last 0x0000 0x07 0xCC (begun (event 5 0 [] ∷ []))
    ∷ last 0x0000 0x87 0x5A (asked (command 0x00 serial ∷ event 6 0 [] ∷ []))
    ∷ last 0x9000 0x83 0xCC (install 0x04 ∷ event 7 0 [] ∷ [])
    ∷ last 0x9000 0x07 0xA5 (personalized ++ event 7 0 [] ∷ event 8 0 [] ∷ [])
    ∷ []

unfoldable pub lasts_hold : List Last → Bool
lasts_hold [] = true
lasts_hold (x ∷ xs) =
    let t = end_of (turns 10 x.session) in
    eqb t.number 0 && eqb t.word x.word && eqb t.card.life.gp x.gp && eqb
    t.card.loading.running.internal x.internal && lasts_hold xs

pub words_reached : T (lasts_hold lasts)
unfolding computed lasts lasts_hold
words_reached = tt

-- the numbers, each with one input that it refuses; a call that has several refuses by the one that is first in its
-- order
abbrev pub area : Bytes
area = zeros area_size

abbrev pub card : Card
card = blank_card 10

-- a state that is not sound: selected while absent
abbrev pub unsound : Card
unsound =
    record {
      chip = card.chip;
      life = record { gp = 0x00; selected = true; name = card.life.name; namelen = 0 };
      loading = card.loading;
    }

abbrev pub plain : Bytes
plain = record_of (install 0x0C)

-- a record whose kind is 9 and whose last byte is not zero
abbrev pub faulty : Bytes
faulty = 9 ∷ 0 ∷ 0 ∷ 0 ∷ zeros 255 ++ 1 ∷ []

abbrev pub unpadded : Bytes
unpadded = 7 ∷ 0 ∷ 0 ∷ 0 ∷ zeros 255 ++ 1 ∷ []

abbrev pub order : Bytes
order = loaded (df 0 ++ linear)

unfoldable pub numbers : List ℕ
numbers =
    -- one event: 1, 2, 6, 3, 4, 5, and none
    (play_of unsound (0 ∷ area) 63 []).number
    ∷ (play_of unsound area 63 []).number
    ∷ (play_of unsound area 64 []).number
    ∷ (play_of card area 64 (0 ∷ faulty)).number
    ∷ (play_of card area 64 faulty).number
    ∷ (play_of card area 64 unpadded).number
    ∷ (play_of card area 64 plain).number
    -- a session: 1, 6, 3, 11, and none, which counts a refused record
    ∷ (run_of unsound [] 0 (0 ∷ [])).number
    ∷ (run_of unsound area 0 (0 ∷ [])).number
    ∷ (run_of card area 0 (0 ∷ plain)).number
    ∷ (run_of card area 0 plain).number
    ∷ (run_of card area 0 []).number
    ∷ (run_of card area 2 (faulty ++ plain)).number
    ∷ length (run_of card area 2 (faulty ++ plain)).run.words
    -- a shown record: 1, 6, 8
    ∷ (shown_of unsound [] 0 0).number
    ∷ (shown_of unsound area 0 0).number
    ∷ (shown_of card area 0 0).number
    ∷ (shown_of (end_of (turns 10 personalized)).card area 0x08 4).number
    ∷ (shown_of (end_of (turns 10 personalized)).card area 0x08 3).number
    ∷ (shown_of (end_of (turns 10 personalized)).card area 0x08 3).len
    -- a fresh card: 7, and none
    ∷ (fresh_of (0 ∷ chip 10)).number
    ∷ (fresh_of (chip 10)).number
    -- the writer: 7, 9, 10, 11, and none
    ∷ (write_of [] (zeros 8193) 0).number
    ∷ (write_of (chip 10) (zeros 8193) 0).number
    ∷ (write_of (chip 5) order 0).number
    ∷ (write_of (chip 10) order 519).number
    ∷ (write_of (chip 10) order 520).number
    ∷ length (write_of (chip 10) order 520).records
    ∷ []

pub numbers_reached : T
    (same numbers (1 ∷ 2 ∷ 6 ∷ 3 ∷ 4 ∷ 5 ∷ 0 ∷ 1 ∷ 6 ∷ 3 ∷ 11 ∷ 0 ∷ 0 ∷ 2 ∷ 1 ∷ 6 ∷ 8 ∷ 8 ∷ 0 ∷ 29 ∷ 7 ∷ 0 ∷ 7 ∷ 9 ∷
    10 ∷ 11 ∷ 0 ∷ 2 ∷ []))
unfolding computed numbers
numbers_reached = tt
