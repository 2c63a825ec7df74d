-- What a call of the writer leaves, by the definition's writing.
use Rattle.std.specs.Prelude.{ℕ, ◌*◌, ◌-◌, ◌≡◌, Bool, cond, List, ◌++◌, ltb, length, take, drop}
use Rattle.lists.specs.Joined.{joined}
use Rattle.lists.specs.Over.{overwrite}
use Rattle.model.specs.declared.Written.{Written}
use Rattle.model.specs.Stored.{record_size}
use Rattle.model.specs.Command.{walk}
use Rattle.model.specs.Order.{challenged_state, finished, records_for, Writing, no_writing}

-- its number, how many records, and those end to end over the front of the room; all else of the room stays
pub record Writes (w : Writing) (before : List ℕ) (r : Written) (after : List ℕ) : Type 0 where
  pub number : r.number ≡ w.number
  pub count : r.count ≡ length w.records
  pub room : after ≡ overwrite before 0 (joined w.records)

-- a command's groupings behind the three bytes of '9484' pass, and leave nothing missing and nothing open
unfoldable pub passes_behind : ℕ → List ℕ → Bool
passes_behind capacity d = finished (walk (length d - 3) capacity (length d) 0x00 (drop 3 d) challenged_state)

-- number 11, or the records
abbrev pub cut_for : List ℕ → ℕ → Writing
cut_for order room =
    cond (ltb room (length (records_for order) * record_size)) (no_writing 11)
    (record { number = 0; records = records_for order })

-- the session that is made of it: some records, and behind them so many from the front of the room
unfoldable pub session_in : List (List ℕ) → ℕ → List ℕ → List ℕ
session_in front count room = joined front ++ take (count * record_size) room
