-- Answers, computed byte by byte: both FCIs at several name lengths, the DF's status, and what the three queries give.
use Prim.Native.Nat.{ℕ, ◌-◌}
use mathlib.Core.Bool.{Bool, true, false}
use mathlib.Core.List.{List, [], ◌∷◌, ◌++◌}
use lib.Dec.{T}
use Rattle.lists.specs.Bytes.{zeros}
use Rattle.model.specs.declared.Open.TheVariants.{Shut}
use Rattle.model.specs.declared.Card.{Card}
use Rattle.model.specs.Stored.{Event}
use Rattle.model.proofs.Scenes.{Bytes, event, df, ef, linear}
use Rattle.model.proofs.Tables.{every, rising}
use Rattle.model.proofs.Cards.{on, gives, replies, card_of, life_in, running_of, loading_of, carded}

-- at '07' with a name of n bytes from '50' on, and a table
abbrev pub named : ℕ → ℕ → Bool → List Bytes → Card
named n i sel files =
    card_of (record { gp = 0x07; selected = sel; name = rising 0x50 n ++ zeros (16 - n); namelen = n })
    (loading_of (running_of i 0x1F7 0 Shut) (zeros 18) files)

abbrev pub select_of : ℕ → Event
select_of n = event 3 0x00 (rising 0x50 n)

-- "Full FCI: 6F L 84 n name A5 16 BF 0C 13 C7 08 serial 53 07 startup": what stands behind the name
abbrev pub behind_name : Bytes
behind_name = 0xA5 ∷ 0x16 ∷ 0xBF ∷ 0x0C ∷ 0x13 ∷ 0xC7 ∷ 0x08 ∷ rising 0x51 8 ++ 0x53 ∷ 0x07 ∷ rising 0x61 7

-- SELECT of the name, of one byte less and of one byte more: "6F n+2 84 n name", "L = n + 26"
abbrev pub selects_in : ℕ → ℕ → Bytes → Bool
selects_in i n fci =
    replies (named n i false (df 0 ∷ []))
    (gives (select_of n) 0x9000 fci (named n i true (df 0 ∷ []))
    ∷ on (select_of (n - 1)) 0x6A82 (named n i false (df 0 ∷ []))
    ∷ on (event 3 0x00 (rising 0x50 n ++ 0x00 ∷ [])) 0x6A82 (named n i false (df 0 ∷ []))
    ∷ on (event 3 0x00 (rising 0x4F n)) 0x6A82 (named n i false (df 0 ∷ []))
    ∷ [])

-- SELECT in 'A5' of a card with a table: the word
abbrev pub selects_with : List Bytes → ℕ → Bool
selects_with files w =
    replies (named 5 0xA5 false files)
    (gives (select_of 5) w (0x6F ∷ 31 ∷ 0x84 ∷ 5 ∷ rising 0x50 5 ++ behind_name) (named 5 0xA5 true files) ∷ [])

-- a table with no descriptor in which one with status 1 stood
abbrev pub emptied : Bool → Card
emptied sel =
    let l = loading_of (running_of 0xA5 0x1F7 0 Shut) (zeros 18) (df 1 ∷ []) in
    card_of (life_in 0x07 sel)
    (record {
      running = l.running;
      held = l.held;
      files = l.files;
      count = 0;
      serial = l.serial;
      startup = l.startup;
      counter = l.counter;
      secrets = l.secrets;
    })

unfoldable pub selections : List Bool
selections =
    selects_in 0xCC 5 (0x6F ∷ 7 ∷ 0x84 ∷ 5 ∷ rising 0x50 5) ∷ selects_in 0xCC 8 (0x6F ∷ 10 ∷ 0x84 ∷ 8 ∷ rising 0x50 8)
    ∷ selects_in 0xCC 16 (0x6F ∷ 18 ∷ 0x84 ∷ 16 ∷ rising 0x50 16)
    ∷ selects_in 0xA5 5 (0x6F ∷ 31 ∷ 0x84 ∷ 5 ∷ rising 0x50 5 ++ behind_name)
    ∷ selects_in 0xA5 8 (0x6F ∷ 34 ∷ 0x84 ∷ 8 ∷ rising 0x50 8 ++ behind_name)
    ∷ selects_in 0xA5 16 (0x6F ∷ 42 ∷ 0x84 ∷ 16 ∷ rising 0x50 16 ++ behind_name)
    -- "'6283' where the DF is invalidated, else '9000'"; in 'CC' the DF is not asked
    ∷ selects_with [] 0x9000 ∷ selects_with (df 0 ∷ []) 0x9000 ∷ selects_with (df 1 ∷ []) 0x6283
    ∷ selects_with (df 0 ∷ linear ∷ []) 0x9000 ∷ selects_with (df 1 ∷ linear ∷ []) 0x6283
    ∷ selects_with (df 1 ∷ linear ∷ ef 0x07 0x01 0 1 0 0 ∷ []) 0x6283
    ∷ replies (emptied false)
    (gives (event 3 0x00 (0x31 ∷ 0x54 ∷ 0x49 ∷ 0x43 ∷ 0x2E ∷ 0x49 ∷ 0x43 ∷ 0x41 ∷ [])) 0x9000
    (0x6F ∷ 34 ∷ 0x84 ∷ 8 ∷ 0x31 ∷ 0x54 ∷ 0x49 ∷ 0x43 ∷ 0x2E ∷ 0x49 ∷ 0x43 ∷ 0x41 ∷ behind_name) (emptied true) ∷ [])
    ∷ replies (named 5 0xCC false (df 1 ∷ []))
    (gives (select_of 5) 0x9000 (0x6F ∷ 7 ∷ 0x84 ∷ 5 ∷ rising 0x50 5) (named 5 0xCC true (df 1 ∷ [])) ∷ [])
    ∷ []

-- a query, of a card at '07', selected, with these rows in an internal state: it is answered, and rows are taken
abbrev pub asks : ℕ → ℕ → Event → Bytes → ℕ → Bool
asks i rows e b rowsAfter =
    replies (card_of (life_in 0x07 true) (loading_of (running_of i rows 0x0801 Shut) (zeros 18) []))
    (gives e 0x9000 b (card_of (life_in 0x07 true) (loading_of (running_of i rowsAfter 0x0801 Shut) (zeros 18) [])) ∷ [])

abbrev pub challenge : Event
challenge = event 2 0x01 (0x94 ∷ 0x84 ∷ 0x00 ∷ [])

abbrev pub traceability : Event
traceability = event 2 0x01 (0x81 ∷ 0x85 ∷ 0x00 ∷ [])

abbrev pub status : Event
status = event 2 0x01 (0x84 ∷ 0xF2 ∷ 0x00 ∷ [])

-- "They give reference and challenge; traceability; 9F 70 01 GP 9F DC 01 internal."
unfoldable pub queries : List Bool
queries =
    asks 0xCC 0x000 challenge (rising 0x81 4 ++ rising 0x91 16) 0x001
    ∷ asks 0xCC 0x000 traceability (rising 0xB1 16) 0x000 ∷ asks 0xCC 0x001 traceability (rising 0xB1 16) 0x001
    ∷ asks 0x5A 0x001 traceability (rising 0xB1 16) 0x001 ∷ asks 0xA5 0x1F7 traceability (rising 0xB1 16) 0x1F7
    ∷ asks 0xCC 0x000 status (0x9F ∷ 0x70 ∷ 0x01 ∷ 0x07 ∷ 0x9F ∷ 0xDC ∷ 0x01 ∷ 0xCC ∷ []) 0x000
    ∷ asks 0x5A 0x001 status (0x9F ∷ 0x70 ∷ 0x01 ∷ 0x07 ∷ 0x9F ∷ 0xDC ∷ 0x01 ∷ 0x5A ∷ []) 0x001
    ∷ asks 0xA5 0x1F7 status (0x9F ∷ 0x70 ∷ 0x01 ∷ 0x07 ∷ 0x9F ∷ 0xDC ∷ 0x01 ∷ 0xA5 ∷ []) 0x1F7
    ∷ []

pub selections_right : T (every selections)
unfolding carded selections
selections_right = tt

pub queries_right : T (every queries)
unfolding carded queries
queries_right = tt
