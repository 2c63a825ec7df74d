-- "Sound means", computed: for each clause a card just sound, and the same card with that one clause broken.
use Prim.Native.Nat.{ℕ, zero, suc}
use mathlib.Core.Bool.{Bool, true, false, not}
use mathlib.Core.List.{List, [], ◌∷◌}
use lib.Dec.{T}
use lib.ListN.{set}
use Rattle.lists.specs.Bytes.{zeros}
use Rattle.model.specs.declared.Secret.{Secret}
use Rattle.model.specs.declared.Open.{Open}
use Rattle.model.specs.declared.Open.TheVariants.{Shut, Table, Record}
use Rattle.model.specs.declared.Life.{Life}
use Rattle.model.specs.declared.Loading.{Loading}
use Rattle.model.specs.Sound.{sound_with}
use Rattle.model.proofs.Scenes.{Bytes, df, ef, linear}
use Rattle.model.proofs.Tables.{every, but}
use Rattle.model.proofs.Cards.{absent_life, life_in, running_of, loading_of, carded}

-- the loading part in an internal state, with rows, an open value and a table
abbrev pub part : ℕ → ℕ → Open → List Bytes → Loading
part i rows o files = loading_of (running_of i rows 0 o) (zeros 18) files

-- a card with a name, nothing loaded
abbrev pub plain : ℕ → ℕ → Bool → Bool
plain g i sel = sound_with (life_in g sel) (part i 0x001 Shut [])

-- a life with a name of n bytes
abbrev pub named : ℕ → ℕ → Life
named g n = record { gp = g; selected = false; name = zeros 16; namelen = n }

unfoldable pub lives : List Bool
lives =
    -- "GP among '00', '03', '07', '83', '87'"
    sound_with absent_life (part 0xCC 0 Shut [])
    ∷ plain 0x03 0xCC false ∷ plain 0x07 0xCC false ∷ plain 0x83 0xCC false ∷ plain 0x87 0xCC false
    ∷ not (plain 0x01 0xCC false) ∷ not (plain 0x02 0xCC false) ∷ not (plain 0x04 0xCC false)
    ∷ not (plain 0x05 0xCC false) ∷ not (plain 0x06 0xCC false) ∷ not (plain 0x08 0xCC false)
    ∷ not (plain 0x09 0xCC false) ∷ not (plain 0x80 0xCC false) ∷ not (plain 0x82 0xCC false)
    ∷ not (plain 0x85 0xCC false) ∷ not (plain 0x86 0xCC false) ∷ not (plain 0x89 0xCC false)
    ∷ not (plain 0xFF 0xCC false)
    -- "internal 'CC', or '5A' or 'A5' with '07' or '87'"
    ∷ plain 0x07 0x5A true ∷ plain 0x87 0x5A false ∷ plain 0x07 0xA5 true ∷ plain 0x07 0xA5 false
    ∷ plain 0x87 0xA5 false
    ∷ not (plain 0x03 0x5A false) ∷ not (plain 0x83 0x5A false) ∷ not (plain 0x03 0xA5 false)
    ∷ not (plain 0x83 0xA5 false) ∷ not (sound_with absent_life (part 0x5A 0 Shut []))
    ∷ not (sound_with absent_life (part 0xA5 0 Shut []))
    ∷ not (plain 0x07 0x00 true) ∷ not (plain 0x07 0xCD true) ∷ not (plain 0x07 0xCE true)
    ∷ not (plain 0x07 0x5B true) ∷ not (plain 0x07 0x5C true) ∷ not (plain 0x07 0xA4 true)
    ∷ not (plain 0x07 0xA7 true)
    -- "name length 5 to 16, or 0 exactly when absent"
    ∷ not (sound_with (named 0x03 0) (part 0xCC 0 Shut [])) ∷ not (sound_with (named 0x03 4) (part 0xCC 0 Shut []))
    ∷ sound_with (named 0x03 5) (part 0xCC 0 Shut []) ∷ sound_with (named 0x87 16) (part 0xCC 0 Shut [])
    ∷ not (sound_with (named 0x87 17) (part 0xCC 0 Shut [])) ∷ not (sound_with (named 0x00 1) (part 0xCC 0 Shut []))
    ∷ not (sound_with (named 0x00 5) (part 0xCC 0 Shut [])) ∷ not (sound_with (named 0x00 8) (part 0xCC 0 Shut []))
    -- "selected only at '07', and always at '07' with '5A'"
    ∷ plain 0x07 0xCC true ∷ not (plain 0x03 0xCC true) ∷ not (plain 0x83 0xCC true) ∷ not (plain 0x87 0xCC true)
    ∷ not (plain 0x87 0x5A true) ∷ not (plain 0x87 0xA5 true) ∷ not (plain 0x07 0x5A false)
    ∷ not (sound_with (record { gp = 0x00; selected = true; name = zeros 16; namelen = 0 }) (part 0xCC 0 Shut []))
    -- "rows 1 to 11 only, none when absent"
    ∷ sound_with (life_in 0x03 false) (part 0xCC 0 Shut []) ∷ sound_with (life_in 0x03 false) (part 0xCC 0x7FF Shut [])
    ∷ not (sound_with (life_in 0x03 false) (part 0xCC 0x800 Shut []))
    ∷ not (sound_with absent_life (part 0xCC 1 Shut [])) ∷ not (sound_with absent_life (part 0xCC 0x400 Shut []))
    ∷ []

-- n EFs of one byte each, without an SFI
unfoldable pub small : ℕ → List Bytes
small zero = []
small (suc n) = but 1 n (ef 0x00 0x02 1 1 0 0) ∷ small n

-- row 5 taken, in 'CC' at '07'
abbrev pub tabled_as : List Bytes → Bool
tabled_as files = sound_with (life_in 0x07 true) (part 0xCC 0x010 Shut files)

abbrev pub secrets_as : List Secret → Bool
secrets_as xs =
    let l = part 0xCC 0 Shut [] in
    sound_with (life_in 0x07 true)
    (record {
      running = l.running;
      held = l.held;
      files = l.files;
      count = l.count;
      serial = l.serial;
      startup = l.startup;
      counter = l.counter;
      secrets = xs;
    })

abbrev pub long : ℕ → Secret
long n = record { bytes = zeros 64; len = n }

abbrev pub five_long : List Secret
five_long = long 64 ∷ long 64 ∷ long 0 ∷ long 63 ∷ long 64 ∷ []

unfoldable pub tables : List Bool
tables =
    -- "descriptors that each pass below after those before"
    tabled_as [] ∷ tabled_as (df 0 ∷ []) ∷ tabled_as (df 1 ∷ linear ∷ []) ∷ not (tabled_as (df 2 ∷ []))
    ∷ not (tabled_as (linear ∷ [])) ∷ not (tabled_as (df 0 ∷ linear ∷ linear ∷ []))
    ∷ tabled_as (df 0 ∷ ef 0x07 0x01 0x10 0x00 0 0 ∷ []) ∷ not (tabled_as (df 0 ∷ ef 0x07 0x01 0x10 0x01 0 0 ∷ []))
    ∷ tabled_as (df 0 ∷ small 30) ∷ not (tabled_as (df 0 ∷ small 31))
    -- "descriptors only where row 5 is taken, '3100' is open, or the card is locked in '5A'"
    ∷ not (sound_with (life_in 0x07 true) (part 0xCC 0x7EF Shut (df 0 ∷ [])))
    ∷ not (sound_with (life_in 0x07 true) (part 0x5A 0x00F Shut (df 0 ∷ [])))
    ∷ sound_with (life_in 0x07 true) (part 0x5A 0x01F Shut (df 0 ∷ []))
    ∷ sound_with (life_in 0x07 true) (part 0x5A 0x00F (Table 0 18) (df 0 ∷ []))
    ∷ not (sound_with (life_in 0x07 true) (part 0x5A 0x00F (Record 0x0801 0 1) (df 0 ∷ linear ∷ [])))
    ∷ sound_with (life_in 0x87 false) (part 0x5A 0x00F Shut (df 0 ∷ []))
    ∷ not (sound_with (life_in 0x87 false) (part 0xCC 0x00F Shut (df 0 ∷ [])))
    ∷ not (sound_with (life_in 0x87 false) (part 0xA5 0x00F Shut (df 0 ∷ [])))
    -- "secrets at most 64 bytes"
    ∷ secrets_as [] ∷ secrets_as five_long ∷ not (secrets_as (set five_long 0 (long 65)))
    ∷ not (secrets_as (set five_long 2 (long 65))) ∷ not (secrets_as (set five_long 4 (long 65)))
    ∷ []

pub lives_right : T (every lives)
unfolding carded lives
lives_right = tt

pub tables_right : T (every tables)
unfolding carded tables small
tables_right = tt
