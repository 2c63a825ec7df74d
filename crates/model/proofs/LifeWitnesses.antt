-- "Events", computed: every kind in every state, with its word, its answer and the whole card after it.
use Prim.Native.Nat.{ℕ}
use mathlib.Core.Bool.{Bool, true, false}
use mathlib.Core.List.{List, [], ◌∷◌, ◌++◌}
use lib.Dec.{T}
use Rattle.model.specs.declared.Card.{Card}
use Rattle.model.specs.Stored.{Event}
use Rattle.model.proofs.Scenes.{Bytes, event, name, select, install, install_data, selectable_data}
use Rattle.model.proofs.Tables.{every, rising}
use Rattle.model.proofs.Cards.{Case, on, gives, replies, card_in, absent_card, carded}

-- the events that are tried; "another" is one of another name, "misformed" one whose data are of another P1's form
abbrev pub selectable : Event
selectable = event 1 0x08 selectable_data

abbrev pub selectable_another : Event
selectable_another = event 1 0x08 (0 ∷ 0 ∷ 5 ∷ 0x31 ∷ 0x54 ∷ 0x49 ∷ 0x43 ∷ 0x2E ∷ 0x01 ∷ 0x00 ∷ 0x00 ∷ 0x00 ∷ [])

abbrev pub misformed : ℕ → Event
misformed p1 = event 1 p1 selectable_data

abbrev pub misformed_selectable : Event
misformed_selectable = event 1 0x08 install_data

abbrev pub empty : Event
empty = event 2 0x00 []

abbrev pub status : Event
status = event 2 0x01 (0x84 ∷ 0xF2 ∷ 0x00 ∷ [])

abbrev pub unknown : Event
unknown = event 2 0x00 (0x50 ∷ 0x00 ∷ 0x00 ∷ [])

abbrev pub torn : Event
torn = event 2 0x00 (0x20 ∷ 0x00 ∷ [])

abbrev pub another : Event
another = event 3 0x00 (0x31 ∷ 0x54 ∷ 0x49 ∷ 0x43 ∷ 0x2E ∷ 0x49 ∷ 0x43 ∷ 0x40 ∷ [])

abbrev pub kind : ℕ → Event
kind k = event k 0x00 []

abbrev pub status_is : ℕ → ℕ → Bytes
status_is g i = 0x9F ∷ 0x70 ∷ 0x01 ∷ g ∷ 0x9F ∷ 0xDC ∷ 0x01 ∷ i ∷ []

abbrev pub name_fci : Bytes
name_fci = 0x6F ∷ 10 ∷ 0x84 ∷ 8 ∷ name

abbrev pub full_fci : Bytes
full_fci =
    0x6F ∷ 34 ∷ 0x84 ∷ 8 ∷ name ++ 0xA5 ∷ 0x16 ∷ 0xBF ∷ 0x0C ∷ 0x13 ∷ 0xC7 ∷ 0x08 ∷ rising 0x51 8
    ++ 0x53 ∷ 0x07 ∷ rising 0x61 7

-- INSTALL on a present card that is not in '5A': by P1, then form, then state; '08' of its own name stands apart
abbrev pub refuses_install : Card → List Case
refuses_install c =
    on (install 0x04) 0x6985 c ∷ on (install 0x0C) 0x6985 c ∷ on selectable_another 0x6A88 c
    ∷ on (install 0x0D) 0x6A86 c ∷ on (misformed 0x0D) 0x6A86 c ∷ on (misformed 0x04) 0x6A80 c
    ∷ on (misformed 0x0C) 0x6A80 c ∷ on misformed_selectable 0x6A80 c ∷ []

-- every STORE DATA on a card that is not selected
abbrev pub refuses_data : Card → List Case
refuses_data c = on empty 0x6985 c ∷ on status 0x6985 c ∷ on unknown 0x6985 c ∷ on torn 0x6985 c ∷ []

abbrev pub absent : Bool
absent =
    let c = absent_card in
    replies c
    (on selectable 0x6A88 c ∷ on selectable_another 0x6A88 c ∷ on (install 0x0D) 0x6A86 c
    ∷ on (misformed 0x0D) 0x6A86 c ∷ on (misformed 0x04) 0x6A80 c ∷ on (misformed 0x0C) 0x6A80 c
    ∷ on misformed_selectable 0x6A80 c
    ∷ on select 0x6A82 c ∷ on another 0x6A82 c ∷ on (kind 3) 0x6A82 c
    ∷ on (kind 4) 0x6985 c ∷ on (kind 5) 0x0000 c ∷ on (kind 6) 0x0000 c ∷ on (kind 7) 0x6A88 c
    ∷ on (kind 8) 0x6A88 c ∷ refuses_data c)

-- not selected in a GP and an internal state: INSTALL '08' of the name, SELECT of the name, LOCK and UNLOCK differ
abbrev pub unselected : ℕ → ℕ → Case → Case → ℕ → ℕ → ℕ → ℕ → Bool
unselected g i install08 selects lock locked unlock unlocked =
    let c = card_in g i false in
    replies c
    (install08 ∷ selects ∷ on another 0x6A82 c ∷ on (kind 3) 0x6A82 c
    ∷ on (kind 4) 0x6985 c ∷ on (kind 5) 0x0000 c ∷ on (kind 6) 0x0000 c
    ∷ on (kind 7) lock (card_in locked i false) ∷ on (kind 8) unlock (card_in unlocked i false)
    ∷ refuses_data c ++ refuses_install c)

-- selected at '07': 'CC' and 'A5' differ in what SELECT, an unknown tag and a torn header come to
abbrev pub selected_in : ℕ → Bytes → Case → Bool
selected_in i fci tagged =
    let c = card_in 0x07 i true in
    replies c
    (gives select 0x9000 fci c ∷ on another 0x6A82 c
    ∷ on empty 0x6700 c ∷ gives status 0x9000 (status_is 0x07 i) c ∷ tagged ∷ on torn 0x6A80 c
    ∷ on (kind 4) 0x6D00 c ∷ on (kind 5) 0x0000 (card_in 0x07 i false) ∷ on (kind 6) 0x0000 (card_in 0x07 i false)
    ∷ on (kind 7) 0x9000 (card_in 0x87 i false) ∷ on (kind 8) 0x6985 c
    ∷ on selectable 0x6985 c ∷ refuses_install c)

-- every kind but 2 in '5A', on a card that is locked or that it locks: it leaves d
abbrev pub locking : Card → List Case
locking d =
    on (install 0x04) 0x6985 d ∷ on (install 0x0C) 0x6985 d ∷ on selectable 0x6985 d ∷ on selectable_another 0x6985 d
    ∷ on (install 0x0D) 0x6985 d ∷ on (misformed 0x0C) 0x6985 d ∷ on misformed_selectable 0x6985 d
    ∷ gives select 0x6283 name_fci d ∷ on another 0x6A82 d ∷ on (kind 3) 0x6A82 d
    ∷ on (kind 4) 0x6985 d ∷ on (kind 5) 0x0000 d ∷ on (kind 6) 0x0000 d ∷ on (kind 7) 0x6985 d ∷ on (kind 8) 0x6985 d
    ∷ []

unfoldable pub states : List Bool
states =
    absent
    ∷ unselected 0x03 0xCC (on selectable 0x9000 (card_in 0x07 0xCC false)) (on select 0x6A82 (card_in 0x03 0xCC false))
    0x9000 0x83 0x6985 0x03
    ∷ unselected 0x07 0xCC (on selectable 0x6985 (card_in 0x07 0xCC false))
    (gives select 0x9000 name_fci (card_in 0x07 0xCC true)) 0x9000 0x87 0x6985 0x07
    ∷ unselected 0x07 0xA5 (on selectable 0x6985 (card_in 0x07 0xA5 false))
    (gives select 0x9000 full_fci (card_in 0x07 0xA5 true)) 0x9000 0x87 0x6985 0x07
    ∷ unselected 0x83 0xCC (on selectable 0x6985 (card_in 0x83 0xCC false)) (on select 0x6A82 (card_in 0x83 0xCC false))
    0x6985 0x83 0x9000 0x03
    ∷ unselected 0x87 0xCC (on selectable 0x6985 (card_in 0x87 0xCC false)) (on select 0x6A82 (card_in 0x87 0xCC false))
    0x6985 0x87 0x9000 0x07
    ∷ unselected 0x87 0xA5 (on selectable 0x6985 (card_in 0x87 0xA5 false)) (on select 0x6A82 (card_in 0x87 0xA5 false))
    0x6985 0x87 0x9000 0x07
    ∷ selected_in 0xCC name_fci (on unknown 0x6A88 (card_in 0x87 0x5A false))
    ∷ selected_in 0xA5 full_fci (on unknown 0x6985 (card_in 0x07 0xA5 true))
    -- '5A' at '07', where STORE DATA may go on, and locked
    ∷ replies (card_in 0x07 0x5A true) (locking (card_in 0x87 0x5A false))
    ∷ replies (card_in 0x07 0x5A true)
    (on empty 0x6700 (card_in 0x87 0x5A false) ∷ gives status 0x9000 (status_is 0x07 0x5A) (card_in 0x07 0x5A true)
    ∷ on unknown 0x6A88 (card_in 0x87 0x5A false) ∷ on torn 0x6A80 (card_in 0x87 0x5A false) ∷ [])
    ∷ replies (card_in 0x87 0x5A false) (locking (card_in 0x87 0x5A false))
    ∷ replies (card_in 0x87 0x5A false) (refuses_data (card_in 0x87 0x5A false))
    ∷ []

pub states_right : T (every states)
unfolding carded states
states_right = tt
