-- "A passed grouping is kept", computed: each row's value in its place, its row taken, all else of the card as it was;
-- and what a rule that keeps nothing goes on with.
use Prim.Native.Nat.{ℕ, ◌-◌}
use mathlib.Core.Bool.{Bool, true, false}
use mathlib.Core.List.{List, [], ◌∷◌, ◌++◌}
use lib.Dec.{T, eqb}
use lib.ListN.{set, replicate}
use Rattle.lists.specs.Bytes.{zeros}
use Rattle.model.specs.declared.Secret.{Secret}
use Rattle.model.specs.declared.Open.TheVariants.{Shut, Table, Record}
use Rattle.model.specs.declared.Card.{Card}
use Rattle.model.specs.declared.Verdict.TheVariants.{Passes, Refuses}
use Rattle.model.specs.Loads.{State}
use Rattle.model.specs.Rules.{Result, went, asked, failed, judged, unless, does, rule_b, rule_c, kept, described}
use Rattle.model.specs.Rules.{table_bytes, in_table}
use Rattle.model.specs.Stages.{from_g}
use Rattle.model.specs.Command.{walk, the_end}
use Rattle.model.proofs.Scenes.{Bytes, event, df, serial, startup, counter, key}
use Rattle.model.proofs.Tables.{every, rising, verdict_number}
use Rattle.model.proofs.Cards.{on, replies, secrets_made, blank_file, card_of, life_in, running_of, loading_of}
use Rattle.model.proofs.Cards.{shut_in, small_area, carded}

-- a card in '5A' with rows and these facts and secrets
abbrev pub keeping : ℕ → Bytes → Bytes → ℕ → List Secret → Card
keeping rows ser start cnt secrets =
    let l = loading_of (running_of 0x5A rows 0 Shut) (zeros 18) (df 0 ∷ []) in
    card_of (life_in 0x07 true)
    (record {
      running = l.running;
      held = l.held;
      files = l.files;
      count = l.count;
      serial = ser;
      startup = start;
      counter = cnt;
      secrets = secrets;
    })

abbrev pub ser0 : Bytes
ser0 = rising 0x51 8

abbrev pub start0 : Bytes
start0 = rising 0x61 7

abbrev pub cnt0 : ℕ
cnt0 = 0x030201

-- with rows as they are, and with nothing else than before
abbrev pub before : ℕ → Card
before rows = keeping rows ser0 start0 cnt0 secrets_made

abbrev pub keeps : ℕ → Bytes → Card → Bool
keeps rows d c = replies (before rows) (on (event 2 0x00 d) 0x9000 c ∷ [])

-- the secret of '3800' or '410n' with n bytes '5C', at its place among the five
abbrev pub with_secret : ℕ → ℕ → ℕ → Card
with_secret rows i n =
    keeping rows ser0 start0 cnt0 (set secrets_made i (record { bytes = replicate n 0x5C ++ zeros (64 - n); len = n }))

unfoldable pub values : List Bool
values =
    keeps 0x001 serial (keeping 0x003 (rising 0xA1 8) start0 cnt0 secrets_made)
    ∷ keeps 0x003 (startup 9) (keeping 0x007 ser0 (9 ∷ 1 ∷ 2 ∷ 3 ∷ 4 ∷ 0 ∷ 0 ∷ []) cnt0 secrets_made)
    -- "'2200' any, MSB first"
    ∷ keeps 0x007 counter (keeping 0x00F ser0 start0 0x010203 secrets_made)
    ∷ keeps 0x007 (0x22 ∷ 0x00 ∷ 3 ∷ 0 ∷ 0 ∷ 0 ∷ []) (keeping 0x00F ser0 start0 0 secrets_made)
    ∷ keeps 0x007 (0x22 ∷ 0x00 ∷ 3 ∷ 0xFF ∷ 0xFE ∷ 0xFD ∷ []) (keeping 0x00F ser0 start0 0xFFFEFD secrets_made)
    ∷ keeps 0x017 (key 0x38 0x00 2) (with_secret 0x037 0 2) ∷ keeps 0x01F (key 0x38 0x00 64) (with_secret 0x03F 0 64)
    ∷ keeps 0x037 (key 0x41 0x01 1) (with_secret 0x077 1 1) ∷ keeps 0x037 (key 0x41 0x01 63) (with_secret 0x077 1 63)
    ∷ keeps 0x077 (key 0x41 0x02 16) (with_secret 0x0F7 2 16) ∷ keeps 0x0F7 (key 0x41 0x03 24) (with_secret 0x1F7 3 24)
    ∷ keeps 0x1F7 (key 0x41 0x04 32) (with_secret 0x3F7 4 32)
    -- several in one command
    ∷ keeps 0x001 (serial ++ startup 9 ++ counter)
    (keeping 0x00F (rising 0xA1 8) (9 ∷ 1 ∷ 2 ∷ 3 ∷ 4 ∷ 0 ∷ 0 ∷ []) 0x010203 secrets_made)
    ∷ []

-- a result's number: what it goes on with, the query's tag, the word
abbrev pub number_of : Result ℕ → ℕ
number_of (went n s) = n
number_of (asked t s) = t
number_of (failed w s) = w

abbrev pub state : State
state = record { load = shut_in 0x5A; area = small_area }

-- what is left of the rules from g on: the word, '9000' where they pass
abbrev pub word_of : Result (List ℕ) → ℕ
word_of (went bytes s) = 0x9000
word_of (asked t s) = t
word_of (failed w s) = w

-- '2000' with so many of its bytes
abbrev pub serial_of : ℕ → ℕ
serial_of n =
    word_of (from_g 10 2 (record { tag = 0x2000; size = 3; len = 8 }) (0x20 ∷ 0x00 ∷ 8 ∷ zeros n) state)

-- a rule that hands nothing on goes on with 0; rule g refuses what is cut short
unfoldable pub plain : List Bool
plain =
    eqb (verdict_number (unless true 0x6700)) 0 ∷ eqb (verdict_number (unless false 0x6700)) 0x6700
    ∷ eqb (number_of (judged (Passes 7) state)) 7 ∷ eqb (number_of (judged (Refuses 0x6A88) state)) 0x6A88
    ∷ eqb (number_of (does (λ s. s) state)) 0
    ∷ eqb (number_of (rule_b 3 0x00 [] (record { tag = 0x2000; size = 3; len = 0 }) state)) 0
    ∷ eqb (number_of (rule_c state)) 0 ∷ eqb (number_of (rule_c (record { load = shut_in 0xCC; area = small_area }))) 0
    ∷ eqb (number_of (kept 10 3 (6 ∷ zeros 6) state)) 0 ∷ eqb (number_of (kept 10 2 (zeros 8) state)) 0
    ∷ eqb (number_of (in_table Shut 5 state)) 0 ∷ eqb (number_of (in_table (Record 0x0801 0 1) 5 state)) 0
    ∷ eqb (number_of (in_table (Table 0 18) 5 state)) 0 ∷ eqb (number_of (table_bytes [] state)) 0
    ∷ eqb (number_of (walk 0 10 0 0x00 [] state)) 0 ∷ eqb (number_of (walk 1 10 0 0x00 [] state)) 0
    ∷ eqb (number_of (described (Passes 5) blank_file 0 state)) 0
    ∷ eqb (number_of (the_end 0x00 state)) 0 ∷ eqb (number_of (the_end 0x80 state)) 0
    ∷ eqb (serial_of 7) 0x6A80 ∷ eqb (serial_of 8) 0x9000
    ∷ []

pub values_right : T (every values)
unfolding carded values
values_right = tt

pub plain_right : T (every plain)
unfolding carded plain
plain_right = tt
