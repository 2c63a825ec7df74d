-- The calls, computed: each number at both sides and before every later one, and what a refusal and a run return.
use Prim.Native.Nat.{ℕ}
use mathlib.Core.Bool.{Bool, true, false, ◌&&◌}
use mathlib.Core.List.{List, [], ◌∷◌, ◌++◌}
use lib.Dec.{T, eqb}
use lib.ListN.{length, drop}
use Rattle.lists.specs.Bytes.{same, zeros}
use Rattle.model.specs.declared.Card.{Card}
use Rattle.model.specs.declared.Open.TheVariants.{Shut, Table}
use Rattle.model.specs.Stored.{record_of}
use Rattle.model.specs.Session.{play_of, run_of, shown_of, part_shown}
use Rattle.model.proofs.Scenes.{Bytes, event, df, ef, linear}
use Rattle.model.proofs.Tables.{every, rising, but, card_numbers}
use Rattle.model.proofs.Cards.{card_of, life_in, running_of, loading_of, carded}

-- counters 11 x 1, linear 29 x 3, '08', binary of 300 bytes, linear without an SFI
abbrev pub files : List Bytes
files =
    df 0 ∷ ef 0x19 0x09 11 1 0 0 ∷ linear ∷ ef 0x0A 0x08 200 20 0x19 1 ∷ ef 0x07 0x01 0x01 0x2C 0 0
    ∷ ef 0x00 0x02 10 2 0 0 ∷ []

-- personalized at '07', not selected; and no sound card: selected at '87'
unfoldable pub good : Card
good = card_of (life_in 0x07 false) (loading_of (running_of 0xA5 0x1F7 0 Shut) (zeros 18) files)

unfoldable pub bad : Card
bad = card_of (life_in 0x87 true) (loading_of (running_of 0xA5 0x1F7 0 Shut) (zeros 18) files)

unfoldable pub area : Bytes
area = rising 0 418 ++ zeros 3678

abbrev pub lock : Bytes
lock = record_of (event 7 0 [])

abbrev pub locked_card : Card
locked_card = card_of (life_in 0x87 false) (loading_of (running_of 0xA5 0x1F7 0 Shut) (zeros 18) files)

-- kind 9 with data behind its length; kind 7 with the same
abbrev pub kindless : Bytes
kindless = 9 ∷ zeros 258 ++ 1 ∷ []

abbrev pub unpadded : Bytes
unpadded = 7 ∷ zeros 258 ++ 1 ∷ []

-- one event is refused by a number: "state as given, word '0000'"
abbrev pub refuses : Card → Bytes → ℕ → Bytes → ℕ → Bool
refuses c a room r n =
    let t = play_of c a room r in
    eqb t.number n && eqb t.word 0x0000 && same t.answer [] && same (card_numbers t.card) (card_numbers c)
    && same t.area a

-- one event is answered
abbrev pub answers : ℕ → Bytes → ℕ → Bytes → Card → Bool
answers room r w b c =
    let t = play_of good area room r in
    eqb t.number 0 && eqb t.word w && same t.answer b && same (card_numbers t.card) (card_numbers c)
    && same t.area area

-- "one event 1, 2, 6, 3, 4, 5"
unfoldable pub plays : List Bool
plays =
    refuses bad (0 ∷ area) 63 (0 ∷ kindless) 1 ∷ refuses good (drop 1 area) 64 lock 1
    ∷ refuses good (0 ∷ area) 64 lock 1 ∷ refuses good [] 0 [] 1
    ∷ refuses bad area 63 (0 ∷ kindless) 2 ∷ refuses good area 63 lock 2 ∷ refuses good area 0 lock 2
    ∷ refuses bad area 64 (0 ∷ kindless) 6 ∷ refuses bad area 64 lock 6 ∷ refuses bad area 65 kindless 6
    ∷ refuses good area 64 (0 ∷ kindless) 3 ∷ refuses good area 64 (drop 1 kindless) 3 ∷ refuses good area 64 [] 3
    ∷ refuses good area 64 (lock ++ lock) 3
    ∷ refuses good area 64 kindless 4 ∷ refuses good area 64 (zeros 260) 4 ∷ refuses good area 64 unpadded 5
    ∷ answers 64 lock 0x9000 [] locked_card ∷ answers 65 lock 0x9000 [] locked_card
    -- P2 is never read; kinds 4 to 8 don't read P1 or data
    ∷ answers 64 (but 2 0xFF lock) 0x9000 [] locked_card
    ∷ answers 64 (but 1 0xFF (but 3 1 (but 4 0x55 lock))) 0x9000 [] locked_card
    ∷ answers 64 (record_of (event 4 0 [])) 0x6985 [] good
    ∷ []

-- a session run: number, words, and the card after it; on a refusal "the state as given and 0 records"
abbrev pub runs : Card → Bytes → ℕ → Bytes → ℕ → List ℕ → Card → Bool
runs c a room bytes n ws d =
    let s = run_of c a room bytes in
    eqb s.number n && same s.run.words ws && same (card_numbers s.run.card) (card_numbers d)
    && same s.run.area a

-- "session 1, 6, 3, 11"
unfoldable pub sessions : List Bool
sessions =
    runs bad (0 ∷ area) 0 (0 ∷ lock) 1 [] bad ∷ runs good (drop 1 area) 1 lock 1 [] good
    ∷ runs bad area 0 (0 ∷ lock) 6 [] bad ∷ runs bad area 1 lock 6 [] bad ∷ runs bad area 0 [] 6 [] bad
    ∷ runs good area 0 (0 ∷ lock) 3 [] good ∷ runs good area 9 (drop 1 lock) 3 [] good
    ∷ runs good area 0 lock 11 [] good ∷ runs good area 1 (lock ++ lock) 11 [] good
    ∷ runs good area 0 [] 0 [] good ∷ runs good area 1 lock 0 (0x9000 ∷ []) locked_card
    ∷ runs good area 2 lock 0 (0x9000 ∷ []) locked_card
    ∷ runs good area 2 (lock ++ lock) 0 (0x9000 ∷ 0x6985 ∷ []) locked_card
    -- "A record refused by 4 or 5 gets '0000' and the run goes on."
    ∷ runs good area 4 (kindless ++ unpadded ++ lock ++ record_of (event 5 0 [])) 0
    (0x0000 ∷ 0x0000 ∷ 0x9000 ∷ 0x0000 ∷ []) locked_card
    ∷ []

-- number, place and length, and the bytes there
abbrev pub shows : Card → Bytes → ℕ → ℕ → ℕ → ℕ → Bytes → Bool
shows c a sfi nn n at b =
    let s = shown_of c a sfi nn in
    eqb s.number n && eqb s.start at && eqb s.len (length b) && same (part_shown a s) b

-- while '3100' is open, row 5 not taken
abbrev pub opened : Card
opened = card_of (life_in 0x07 true) (loading_of (running_of 0x5A 0x007 0 (Table 0 18)) (zeros 18) files)

-- "shown record 1, 6, 8"
unfoldable pub showing : List Bool
showing =
    shows bad (0 ∷ area) 0x00 0 1 0 [] ∷ shows good (drop 1 area) 0x08 1 1 0 []
    ∷ shows bad area 0x00 0 6 0 [] ∷ shows bad area 0x08 1 6 0 []
    -- "SFI 0, no such SFI or record, or no stored bytes"
    ∷ shows good area 0x00 0 8 0 [] ∷ shows good area 0x00 1 8 0 [] ∷ shows good area 0x1F 1 8 0 []
    ∷ shows good area 0x0A 1 8 0 []
    ∷ shows good area 0x08 0 8 0 [] ∷ shows good area 0x08 4 8 0 [] ∷ shows good area 0x07 1 8 0 []
    ∷ shows good area 0x19 2 8 0 []
    ∷ shows good area 0x19 1 0 0 (rising 0 11) ∷ shows good area 0x08 1 0 11 (rising 11 29)
    ∷ shows good area 0x08 3 0 69 (rising 69 29) ∷ shows good area 0x07 0 0 98 (rising 98 300)
    ∷ shows opened area 0x08 2 0 40 (rising 40 29)
    ∷ []

pub plays_right : T (every plays)
unfolding carded plays good bad area
plays_right = tt

pub sessions_right : T (every sessions)
unfolding carded sessions good bad area
sessions_right = tt

pub showing_right : T (every showing)
unfolding carded showing good bad area
showing_right = tt
