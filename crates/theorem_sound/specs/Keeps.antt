-- What a command keeps.
use Rattle.std.specs.Prelude.{ℕ, ◌≤◌, ◌≡◌, true, List, eqb, length}
use Rattle.model.specs.declared.Life.{Life}
use Rattle.model.specs.declared.Card.{Card}
use Rattle.model.specs.declared.Head.{Head}
use Rattle.model.specs.declared.Open.TheVariants.{Shut}
use Rattle.model.specs.declared.Verdict.TheVariants.{Passes}
use Rattle.model.specs.Rows.{due}
use Rattle.model.specs.Table.{table_limit}
use Rattle.model.specs.Loads.{State, file_list}
use Rattle.model.specs.Rules.{Result, went, asked, failed, room_of, length_ok}
use Rattle.model.specs.Sound.{sound, sound_with}

-- a state within a command on a card whose life is f: sound, with an array of 31 descriptors, and a file area of n
-- bytes
pub record Kept (f : Life) (n : ℕ) (s : State) : Type 0 where
  pub sound : sound_with f s.load ≡ true
  pub files : length s.load.files ≡ table_limit
  pub area : length s.area ≡ n

-- what a rule came to, whichever way it ended: Q of where it went on, P of where it stopped
abbrev pub Ends : {A : Type 0} → (A → State → Type 0) → (State → Type 0) → Result A → Type 0
Ends Q P (went a s) = Q a s
Ends Q P (asked t s) = P s
Ends Q P (failed w s) = P s

abbrev pub Keeps : {A : Type 0} → Life → ℕ → Result A → Type 0
Keeps f n r = Ends (λ a s. Kept f n s) (Kept f n) r

-- where a rule that reads bytes went on: bytes are left only where nothing is open
pub record Onward (f : Life) (n : ℕ) (left : List ℕ) (s : State) : Type 0 where
  pub kept : Kept f n s
  pub shut : 1 ≤ length left → s.load.running.pending ≡ Shut

abbrev pub GoesOn : Life → ℕ → Result (List ℕ) → Type 0
GoesOn f n r = Ends (λ left s. Onward f n left s) (Kept f n) r

-- what rules c to f have passed of a grouping
pub record Ruled (s : State) (h : Head) (row room : ℕ) : Type 0 where
  pub least : 1 ≤ row
  pub most : row ≤ 11
  pub personal : eqb s.load.running.internal 0x5A ≡ true
  pub row_due : due s.load.running.rows s.load.running.last row h.tag ≡ true
  pub roomed : room_of (file_list s.load) row h.tag ≡ Passes room
  pub fitting : length_ok row room h.len ≡ true

-- a sound card with a file area of n bytes. That there are 31 descriptors is the array's own fact.
pub record Good (n : ℕ) (c : Card) (a : List ℕ) : Type 0 where
  pub sound : sound c ≡ true
  pub files : length c.loading.files ≡ table_limit
  pub area : length a ≡ n
