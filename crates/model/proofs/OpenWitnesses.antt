-- Values left open over commands, computed: '3100' and 'ssnn' begun, continued, ended and dropped, each with the whole
-- card and the file area after it.
use Prim.Native.Nat.{ℕ, ◌-◌}
use mathlib.Core.Path.{◌≡◌, refl, sym, subst}
use mathlib.Core.Bool.{Bool, true, false, ◌&&◌}
use mathlib.Core.List.{List, [], ◌∷◌, ◌++◌}
use lib.Dec.{T, eqb}
use lib.ListN.{take, drop, replicate}
use Rattle.lists.specs.Bytes.{same, zeros}
use Rattle.model.specs.declared.Open.{Open}
use Rattle.model.specs.declared.Open.TheVariants.{Shut, Table, Record}
use Rattle.model.specs.declared.Loading.{Loading}
use Rattle.model.specs.declared.Card.{Card}
use Rattle.model.specs.Stored.{Event}
use Rattle.model.specs.Loads.{with_open, held_dropped, with_dropped}
use Rattle.model.specs.Events as Said
use Rattle.model.proofs.Scenes.{Bytes, event, name, df, ef, linear}
use Rattle.model.proofs.Tables.{every, rising, but, card_numbers}
use Rattle.model.proofs.Cards.{card_of, life_in, running_of, loading_of, carded}

-- an event on a card and an area: the word, the card and the area after it
abbrev pub makes : Card → Bytes → Event → ℕ → Card → Bytes → Bool
makes c a e w d b =
    let r = Said.event e c a in
    eqb r.word w && same (card_numbers r.card) (card_numbers d) && same r.area b

-- in '5A' at '07', and locked
abbrev pub going : ℕ → ℕ → Open → Bytes → List Bytes → Card
going rows last o held files = card_of (life_in 0x07 true) (loading_of (running_of 0x5A rows last o) held files)

abbrev pub stopped_with : Bytes → ℕ → ℕ → List Bytes → Card
stopped_with held rows last files =
    card_of (life_in 0x87 false) (loading_of (running_of 0x5A rows last Shut) held files)

abbrev pub stopped : ℕ → ℕ → List Bytes → Card
stopped rows last files = stopped_with (zeros 18) rows last files

-- '3100' after '2100', on an area that stays
abbrev pub area : Bytes
area = rising 0x70 20

abbrev pub on_table : ℕ → Open → Bytes → List Bytes → ℕ → Bytes → ℕ → Card → Bool
on_table rows o held files p1 d w c = makes (going rows 0 o held files) area (event 2 p1 d) w c area

-- held bytes: the first n of a descriptor, zeros behind them
abbrev pub first : ℕ → Bytes → Bytes
first n d = take n d ++ zeros (18 - n)

-- an event that drops an open '3100', two bytes of whose second descriptor are held
abbrev pub drops : Event → ℕ → Bool
drops e w = makes (going 7 0 (Table 2 16) (first 2 linear) (df 0 ∷ [])) area e w (stopped 7 0 (df 0 ∷ [])) area

unfoldable pub tables : List Bool
tables =
    -- begun: at the header, within a descriptor, after one; whole
    on_table 7 Shut (zeros 18) [] 0 (0x31 ∷ 0x00 ∷ 36 ∷ []) 0x9000 (going 7 0 (Table 0 36) (zeros 18) [])
    ∷ on_table 7 Shut (zeros 18) [] 0 (0x31 ∷ 0x00 ∷ 36 ∷ 0x3F ∷ []) 0x9000 (going 7 0 (Table 1 35) (first 1 (df 0)) [])
    ∷ on_table 7 Shut (zeros 18) [] 0 (0x31 ∷ 0x00 ∷ 36 ∷ take 17 (df 0)) 0x9000
    (going 7 0 (Table 17 19) (first 17 (df 0)) [])
    ∷ on_table 7 Shut (zeros 18) [] 0 (0x31 ∷ 0x00 ∷ 36 ∷ df 0) 0x9000 (going 7 0 (Table 0 18) (zeros 18) (df 0 ∷ []))
    ∷ on_table 7 Shut (zeros 18) [] 0 (0x31 ∷ 0x00 ∷ 36 ∷ df 0 ++ take 3 linear) 0x9000
    (going 7 0 (Table 3 15) (first 3 linear) (df 0 ∷ []))
    ∷ on_table 7 Shut (zeros 18) [] 0 (0x31 ∷ 0x00 ∷ 36 ∷ df 0 ++ linear) 0x9000
    (going 0x17 0 Shut (zeros 18) (df 0 ∷ linear ∷ []))
    ∷ on_table 0xF Shut (zeros 18) [] 0 (0x31 ∷ 0x00 ∷ 18 ∷ df 0) 0x9000 (going 0x1F 0 Shut (zeros 18) (df 0 ∷ []))
    -- continued: "An open value takes its bytes first"
    ∷ on_table 7 (Table 0 36) (zeros 18) [] 0 (take 2 (df 0)) 0x9000 (going 7 0 (Table 2 34) (first 2 (df 0)) [])
    ∷ on_table 7 (Table 2 34) (first 2 (df 0)) [] 0 (drop 2 (df 0)) 0x9000
    (going 7 0 (Table 0 18) (zeros 18) (df 0 ∷ []))
    ∷ on_table 7 (Table 3 15) (first 3 linear) (df 0 ∷ []) 0 (drop 3 linear) 0x9000
    (going 0x17 0 Shut (zeros 18) (df 0 ∷ linear ∷ []))
    ∷ on_table 7 (Table 17 1) (first 17 linear) (df 0 ∷ []) 1 (0x00 ∷ 0x38 ∷ 0x00 ∷ 0x01 ∷ []) 0x6A80
    (stopped 0x17 0 (df 0 ∷ linear ∷ []))
    -- a query's bytes are the value's while it misses them
    ∷ on_table 7 (Table 0 18) (zeros 18) [] 1 (0x84 ∷ 0xF2 ∷ 0x00 ∷ []) 0x9000
    (going 7 0 (Table 3 15) (0x84 ∷ 0xF2 ∷ zeros 16) [])
    -- a bad descriptor is noticed at its 18th byte; those that passed stay
    ∷ on_table 7 (Table 0 18) (zeros 18) [] 0 (take 17 (df 2)) 0x9000 (going 7 0 (Table 17 1) (first 17 (df 2)) [])
    ∷ on_table 7 (Table 17 1) (first 17 (df 0)) [] 0 (0x02 ∷ []) 0x6A80 (stopped 7 0 [])
    ∷ on_table 7 Shut (zeros 18) [] 0 (0x31 ∷ 0x00 ∷ 36 ∷ df 0 ++ but 3 5 linear) 0x6A80 (stopped 7 0 (df 0 ∷ []))
    ∷ on_table 7 (Table 0 18) (zeros 18) (df 0 ∷ []) 0 (ef 0x07 0x01 0x10 0x01 0 0) 0x6A84 (stopped 7 0 (df 0 ∷ []))
    -- "P1 bit 8 asks for the end: .. open value is '6985' and locks"; an empty command locks
    ∷ on_table 0x1E7 (Table 0 18) (zeros 18) (df 0 ∷ []) 0x80 (take 17 linear) 0x6985 (stopped 0x1E7 0 (df 0 ∷ []))
    ∷ on_table 0x1E7 (Table 0 18) (zeros 18) (df 0 ∷ []) 0x80 (but 3 5 linear) 0x6A80 (stopped 0x1E7 0 (df 0 ∷ []))
    ∷ on_table 7 (Table 2 16) (first 2 (df 0)) [] 0 [] 0x6700 (stopped 7 0 [])
    -- every other kind drops it
    ∷ drops (event 3 0 name) 0x6283 ∷ drops (event 5 0 []) 0x0000 ∷ drops (event 7 0 []) 0x6985
    ∷ []

-- SFI '01' has 2 x 2 bytes, SFI '08' 4 x 3 bytes from place 4 on
abbrev pub files : List Bytes
files = df 0 ∷ ef 0x01 0x02 2 2 0 0 ∷ ef 0x08 0x02 4 3 0 0 ∷ []

-- a card with these files, nothing held
abbrev pub with : ℕ → ℕ → Open → Card
with rows last o = going rows last o (zeros 18) files

abbrev pub on_record : ℕ → ℕ → Open → ℕ → Bytes → ℕ → Card → Bytes → Bool
on_record rows last o p1 d w c b = makes (with rows last o) area (event 2 p1 d) w c b

unfoldable pub records : List Bool
records =
    -- begun, continued, ended
    on_record 0x1F7 0 Shut 0 (0x08 ∷ 0x02 ∷ 4 ∷ []) 0x9000 (with 0x1F7 0 (Record 0x0802 0 4)) area
    ∷ on_record 0x1F7 0 Shut 0 (0x08 ∷ 0x02 ∷ 4 ∷ 0xB1 ∷ []) 0x9000 (with 0x1F7 0 (Record 0x0802 1 3)) (but 8 0xB1 area)
    ∷ on_record 0x1F7 0 (Record 0x0802 1 3) 0 (0xB2 ∷ 0xB3 ∷ []) 0x9000 (with 0x1F7 0 (Record 0x0802 3 1))
    (but 9 0xB2 (but 10 0xB3 area))
    ∷ on_record 0x1F7 0 (Record 0x0802 3 1) 0 (0xB4 ∷ []) 0x9000 (with 0x5F7 0x0802 Shut) (but 11 0xB4 area)
    ∷ on_record 0x5F7 0x0801 (Record 0x0802 3 1) 0 (0xB4 ∷ []) 0x9000 (with 0x5F7 0x0802 Shut) (but 11 0xB4 area)
    ∷ on_record 0x1F7 0 Shut 0 (0x08 ∷ 0x03 ∷ 4 ∷ 0xB1 ∷ 0xB2 ∷ 0xB3 ∷ 0xB4 ∷ []) 0x9000 (with 0x5F7 0x0803 Shut)
    (take 12 area ++ 0xB1 ∷ 0xB2 ∷ 0xB3 ∷ 0xB4 ∷ drop 16 area)
    ∷ on_record 0x3F7 0 Shut 0 (0x01 ∷ 0x02 ∷ 1 ∷ 0xB1 ∷ []) 0x9000 (with 0x7F7 0x0102 Shut) (but 2 0xB1 area)
    -- an empty one's row is taken at its header
    ∷ on_record 0x1F7 0 Shut 0 (0x01 ∷ 0x01 ∷ 0 ∷ []) 0x9000 (with 0x5F7 0x0101 Shut) area
    ∷ on_record 0x1F7 0 Shut 0 (0x01 ∷ 0x01 ∷ 0 ∷ 0x01 ∷ 0x02 ∷ 0 ∷ []) 0x9000 (with 0x5F7 0x0102 Shut) area
    ∷ on_record 0x1F7 0 Shut 0 (0x01 ∷ 0x01 ∷ 0 ∷ 0x01 ∷ 0x01 ∷ 0 ∷ []) 0x6985 (stopped 0x5F7 0x0101 files) area
    -- the next grouping in the same command
    ∷ on_record 0x1F7 0 (Record 0x0802 3 1) 0 (0xB4 ∷ 0x08 ∷ 0x03 ∷ 2 ∷ 0xC1 ∷ 0xC2 ∷ []) 0x9000
    (with 0x5F7 0x0803 Shut) (but 11 0xB4 (but 12 0xC1 (but 13 0xC2 area)))
    ∷ on_record 0x1F7 0 (Record 0x0802 3 1) 0 (0xB4 ∷ 0x08 ∷ 0x03 ∷ 2 ∷ 0xC1 ∷ []) 0x9000
    (with 0x5F7 0x0802 (Record 0x0803 1 1)) (but 11 0xB4 (but 12 0xC1 area))
    ∷ on_record 0x1F7 0 (Record 0x0802 3 1) 0 (0xB4 ∷ 0x08 ∷ 0x02 ∷ 0 ∷ []) 0x6985 (stopped 0x5F7 0x0802 files)
    (but 11 0xB4 area)
    ∷ on_record 0x1F7 0 (Record 0x0802 3 1) 1 (0xB4 ∷ 0x84 ∷ 0xF2 ∷ 0 ∷ []) 0x6A80 (stopped 0x5F7 0x0802 files)
    (but 11 0xB4 area)
    ∷ on_record 0x1F7 0 (Record 0x0802 0 4) 1 (0x84 ∷ 0xF2 ∷ 0 ∷ []) 0x9000 (with 0x1F7 0 (Record 0x0802 3 1))
    (but 8 0x84 (but 9 0xF2 (but 10 0 area)))
    -- the end asked while it is open; dropped, and what was written stays
    ∷ on_record 0x1F7 0 (Record 0x0802 1 3) 0x80 (0xB2 ∷ []) 0x6985 (stopped 0x1F7 0 files) (but 9 0xB2 area)
    ∷ on_record 0x1F7 0 (Record 0x0802 1 3) 0 [] 0x6700 (stopped 0x1F7 0 files) area
    ∷ makes (with 0x1F7 0 (Record 0x0802 1 3)) area (event 3 0 name) 0x6283 (stopped 0x1F7 0 files) area
    ∷ makes (with 0x1F7 0 (Record 0x0802 1 3)) area (event 6 0 []) 0x0000 (stopped 0x1F7 0 files) area
    ∷ makes (with 0x1F7 0 (Record 0x0802 1 3)) area (event 8 0 []) 0x6985 (stopped 0x1F7 0 files) area
    ∷ []

-- an event that locks a card with held bytes '5A', and those after it: a card may be lent so, nothing open
abbrev pub full : Bytes
full = replicate 18 0x5A

abbrev pub holds : Open → Event → ℕ → Bytes → Bool
holds o e w h = makes (going 0x1E7 0 o full files) area e w (stopped_with h 0x1E7 0 files) area

unfoldable pub locks : List Bool
locks =
    -- with nothing open they stay, whatever locks: another kind, an empty command, an unknown tag, a query with bit 8
    holds Shut (event 3 0 name) 0x6283 full ∷ holds Shut (event 5 0 []) 0x0000 full
    ∷ holds Shut (event 2 0 []) 0x6700 full ∷ holds Shut (event 2 0 (0x50 ∷ 0x00 ∷ 0x00 ∷ [])) 0x6A88 full
    ∷ holds Shut (event 2 0x81 (0x84 ∷ 0xF2 ∷ 0x00 ∷ [])) 0x6A86 full
    -- a value that has ended is not dropped by a later error
    ∷ makes (going 0x1F7 0 (Record 0x0802 3 1) full files) area (event 2 0 (0xB4 ∷ 0x50 ∷ 0x00 ∷ 0x00 ∷ [])) 0x6A88
    (stopped_with full 0x5F7 0x0802 files) (but 11 0xB4 area)
    -- an open '3100' and an open 'ssnn' are dropped, and the held bytes are zero
    ∷ holds (Table 2 16) (event 3 0 name) 0x6283 (zeros 18) ∷ holds (Table 2 16) (event 2 0 []) 0x6700 (zeros 18)
    ∷ holds (Table 2 16) (event 2 0x80 (0x3F ∷ [])) 0x6985 (zeros 18)
    ∷ holds (Record 0x0802 1 3) (event 3 0 name) 0x6283 (zeros 18)
    ∷ holds (Record 0x0802 1 3) (event 2 0 []) 0x6700 (zeros 18)
    ∷ []

-- and of every loading part with nothing open a lock changes nothing
pub nothing_dropped : (l : Loading) → l.running.pending ≡ Shut → with_dropped l ≡ l
nothing_dropped l e =
    subst (λ (o : Open). with_open Shut (held_dropped o l.held) l ≡ with_open o l.held l) (sym e) refl

-- the end asked or not behind the last byte of an open value, row 11 taken already: the internal state that it reaches
abbrev pub reaches : ℕ → ℕ → ℕ → Bool
reaches rows p1 i =
    makes (with rows 0 (Record 0x0802 3 1)) area (event 2 p1 (0xB4 ∷ [])) 0x9000
    (card_of (life_in 0x07 true) (loading_of (running_of i rows 0x0802 Shut) (zeros 18) files)) (but 11 0xB4 area)

-- a mandatory row is missing there: '6985', and it locks
abbrev pub lacks : ℕ → Bool
lacks rows =
    makes (with rows 0 (Record 0x0802 3 1)) area (event 2 0x80 (0xB4 ∷ [])) 0x6985 (stopped rows 0x0802 files)
    (but 11 0xB4 area)

unfoldable pub ends : List Bool
ends =
    reaches 0x5F7 0x80 0xA5 ∷ reaches 0x7FF 0x80 0xA5 ∷ reaches 0x7F7 0x81 0xA5 ∷ reaches 0x5FF 0xFF 0xA5
    ∷ reaches 0x7FF 0x00 0x5A ∷ reaches 0x7FF 0x01 0x5A ∷ reaches 0x7FF 0x7F 0x5A ∷ reaches 0x5F6 0x00 0x5A
    ∷ lacks 0x7FE ∷ lacks 0x7FD ∷ lacks 0x7FB ∷ lacks 0x7EF ∷ lacks 0x7DF ∷ lacks 0x7BF ∷ lacks 0x77F ∷ lacks 0x6FF
    ∷ []

pub tables_right : T (every tables)
unfolding carded tables
tables_right = tt

pub records_right : T (every records)
unfolding carded records
records_right = tt

pub locks_right : T (every locks)
unfolding carded locks
locks_right = tt

pub ends_right : T (every ends)
unfolding carded ends
ends_right = tt
