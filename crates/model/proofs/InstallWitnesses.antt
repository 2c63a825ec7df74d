-- INSTALL, computed: both forms at every length's and every tail byte's edge, every P1, and what is kept of it.
use Prim.Native.Nat.{ℕ, ◌-◌}
use mathlib.Core.Bool.{Bool, false, ◌&&◌}
use mathlib.Core.List.{List, [], ◌∷◌, ◌++◌}
use lib.Dec.{T, eqb}
use Rattle.lists.specs.Bytes.{same, zeros}
use Rattle.model.specs.declared.Card.{Card}
use Rattle.model.specs.Events.{Reply}
use Rattle.model.specs.Events as Said
use Rattle.model.proofs.Scenes.{Bytes, event, install_data, selectable_data}
use Rattle.model.proofs.Tables.{every, rising, but, card_numbers}
use Rattle.model.proofs.Cards.{card_of, shut_in, card_in, absent_card, small_area, carded}

-- a life in GP g, not selected, with a name of n bytes from '50' on
abbrev pub named : ℕ → ℕ → Card
named g n =
    card_of (record { gp = g; selected = false; name = rising 0x50 n ++ zeros (16 - n); namelen = n }) (shut_in 0xCC)

-- data of three names with these lengths, and a tail
abbrev pub data_of : ℕ → ℕ → ℕ → Bytes → Bytes
data_of p m i tail = p ∷ rising 0x10 p ++ m ∷ rising 0x30 m ++ i ∷ rising 0x50 i ++ tail

abbrev pub tail : Bytes
tail = 0x01 ∷ 0x00 ∷ 0x02 ∷ 0xC9 ∷ 0x00 ∷ 0x00 ∷ []

abbrev pub short_tail : Bytes
short_tail = 0x01 ∷ 0x00 ∷ 0x00 ∷ 0x00 ∷ []

-- INSTALL with a P1 and data, on a card: the word, and a card as it stays
abbrev pub said : ℕ → Bytes → Card → ℕ → Bool
said p1 d c w =
    let r = Said.event (event 1 p1 d) c small_area in
    eqb r.word w && same (card_numbers r.card) (card_numbers c) && same r.area small_area

-- INSTALL of an absent card: the instance name of n bytes is kept, and the area is filled with zeros
abbrev pub installs : ℕ → ℕ → ℕ → ℕ → ℕ → Bool
installs p1 p m n g =
    let r = Said.event (event 1 p1 (data_of p m n tail)) absent_card small_area in
    eqb r.word 0x9000 && same r.answer [] && same (card_numbers r.card) (card_numbers (named g n))
    && same r.area (zeros 4096)

abbrev pub refused : Bytes → Bool
refused d = said 0x04 d absent_card 0x6A80 && said 0x0C d absent_card 0x6A80

-- "For '04' and '0C' all lengths 5 to 16 and the tail is exactly 01 00 02 C9 00 00."
unfoldable pub forms : List Bool
forms =
    installs 0x04 8 8 8 0x03 ∷ installs 0x0C 8 8 8 0x07 ∷ installs 0x0C 5 6 7 0x07 ∷ installs 0x04 16 15 14 0x03
    ∷ installs 0x0C 5 5 5 0x07 ∷ installs 0x0C 16 16 16 0x07
    ∷ installs 0x0C 5 8 9 0x07 ∷ installs 0x0C 16 8 9 0x07 ∷ refused (data_of 4 8 9 tail) ∷ refused (data_of 17 8 9 tail)
    ∷ installs 0x0C 8 5 9 0x07 ∷ installs 0x0C 8 16 9 0x07 ∷ refused (data_of 8 4 9 tail) ∷ refused (data_of 8 17 9 tail)
    ∷ installs 0x0C 8 9 5 0x07 ∷ installs 0x0C 8 9 16 0x07 ∷ refused (data_of 8 9 4 tail) ∷ refused (data_of 8 9 17 tail)
    ∷ refused (data_of 0 8 9 tail) ∷ refused (data_of 8 0 9 tail) ∷ refused (data_of 8 9 0 tail) ∷ refused []
    ∷ refused (data_of 8 8 8 (but 0 0x00 tail)) ∷ refused (data_of 8 8 8 (but 0 0x03 tail))
    ∷ refused (data_of 8 8 8 (but 1 0x01 tail)) ∷ refused (data_of 8 8 8 (but 1 0x02 tail))
    ∷ refused (data_of 8 8 8 (but 2 0x03 tail)) ∷ refused (data_of 8 8 8 (but 2 0x04 tail))
    ∷ refused (data_of 8 8 8 (but 3 0xC8 tail)) ∷ refused (data_of 8 8 8 (but 3 0xCB tail))
    ∷ refused (data_of 8 8 8 (but 4 0x01 tail)) ∷ refused (data_of 8 8 8 (but 4 0x02 tail))
    ∷ refused (data_of 8 8 8 (but 5 0x01 tail)) ∷ refused (data_of 8 8 8 (but 5 0x02 tail))
    ∷ refused (data_of 8 8 8 (0x01 ∷ 0x00 ∷ 0x02 ∷ 0xC9 ∷ 0x00 ∷ [])) ∷ refused (data_of 8 8 8 (tail ++ 0x00 ∷ []))
    ∷ refused (data_of 8 8 8 []) ∷ refused (data_of 8 8 8 short_tail) ∷ refused selectable_data
    ∷ []

-- INSTALL '08' with a name of n bytes on a card at '03' with that name: it becomes '07', or the card stays
abbrev pub selects : ℕ → Bool
selects n =
    let r = Said.event (event 1 0x08 (data_of 0 0 n short_tail)) (named 0x03 n) small_area in
    eqb r.word 0x9000 && same r.answer [] && same (card_numbers r.card) (card_numbers (named 0x07 n))
    && same r.area small_area

abbrev pub refused_at : ℕ → Bytes → Bool
refused_at n d = said 0x08 d (named 0x03 n) 0x6A80

-- "For '08' the first two are empty, the third is 5 to 16 and the tail is 01 00 00 00."
unfoldable pub selectable_forms : List Bool
selectable_forms =
    selects 5 ∷ selects 8 ∷ selects 16
    ∷ refused_at 4 (data_of 0 0 4 short_tail) ∷ refused_at 16 (data_of 0 0 17 short_tail)
    ∷ refused_at 8 (data_of 1 0 8 short_tail) ∷ refused_at 8 (data_of 0 1 8 short_tail)
    ∷ refused_at 8 (data_of 8 0 8 short_tail) ∷ refused_at 8 (data_of 0 8 8 short_tail)
    ∷ refused_at 8 (data_of 8 8 8 short_tail) ∷ refused_at 8 (data_of 8 8 8 tail)
    ∷ refused_at 8 (data_of 0 0 8 (but 0 0x00 short_tail)) ∷ refused_at 8 (data_of 0 0 8 (but 0 0x03 short_tail))
    ∷ refused_at 8 (data_of 0 0 8 (but 1 0x01 short_tail)) ∷ refused_at 8 (data_of 0 0 8 (but 1 0x02 short_tail))
    ∷ refused_at 8 (data_of 0 0 8 (but 2 0x01 short_tail)) ∷ refused_at 8 (data_of 0 0 8 (but 2 0x02 short_tail))
    ∷ refused_at 8 (data_of 0 0 8 (but 3 0x01 short_tail)) ∷ refused_at 8 (data_of 0 0 8 (but 3 0x02 short_tail))
    ∷ refused_at 8 (data_of 0 0 8 (0x01 ∷ 0x00 ∷ 0x00 ∷ [])) ∷ refused_at 8 (data_of 0 0 8 (short_tail ++ 0x00 ∷ []))
    ∷ refused_at 8 (data_of 0 0 8 tail) ∷ refused_at 8 [] ∷ refused_at 8 install_data
    -- "absent or another name '6A88'": shorter, longer, with another byte; "not '03' '6985'"
    ∷ said 0x08 (data_of 0 0 8 short_tail) absent_card 0x6A88
    ∷ said 0x08 (data_of 0 0 8 short_tail) (named 0x03 7) 0x6A88
    ∷ said 0x08 (data_of 0 0 8 short_tail) (named 0x03 9) 0x6A88
    ∷ said 0x08 (data_of 0 0 8 short_tail) (card_in 0x03 0xCC false) 0x6A88
    ∷ said 0x08 (data_of 0 0 8 short_tail) (named 0x07 8) 0x6985
    ∷ said 0x08 (data_of 0 0 8 short_tail) (named 0x83 8) 0x6985
    ∷ said 0x08 (data_of 0 0 8 short_tail) (named 0x87 8) 0x6985
    ∷ said 0x08 (data_of 0 0 8 short_tail) (named 0x07 9) 0x6A88
    ∷ []

-- "P1 '04', '08' or '0C', else '6A86'", whatever the data
abbrev pub unheard : ℕ → Bool
unheard p1 = said p1 (data_of 8 8 8 tail) absent_card 0x6A86 && said p1 [] (named 0x03 8) 0x6A86

unfoldable pub other_p1s : List Bool
other_p1s =
    unheard 0x00 ∷ unheard 0x01 ∷ unheard 0x02 ∷ unheard 0x03 ∷ unheard 0x05 ∷ unheard 0x06 ∷ unheard 0x07
    ∷ unheard 0x09 ∷ unheard 0x0A ∷ unheard 0x0B ∷ unheard 0x0D ∷ unheard 0x0E ∷ unheard 0x0F ∷ unheard 0x10
    ∷ unheard 0x84 ∷ unheard 0x8C ∷ unheard 0xFF
    ∷ []

pub forms_right : T (every forms)
unfolding carded forms
forms_right = tt

pub selectable_forms_right : T (every selectable_forms)
unfolding carded selectable_forms
selectable_forms_right = tt

pub other_p1s_right : T (every other_p1s)
unfolding carded other_p1s
other_p1s_right = tt
