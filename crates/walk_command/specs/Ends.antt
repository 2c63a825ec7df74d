-- How a walk's end is told.
use Rattle.std.specs.Prelude.{ℕ, ◌≡◌, true, false, cond, not, ◌&&◌, eqb, List}
use Rattle.model.specs.declared.Card.{Card}
use Rattle.model.specs.declared.Open.TheVariants.{Shut}
use Rattle.model.specs.Events.{Reply, with_loading}
use Rattle.walk_command.specs.declared.Said.{Said}
use Rattle.model.specs.declared.Loading.{Loading}
use Rattle.model.specs.declared.Running.{Running}
use Rattle.model.specs.Stored.{area_size}
use Rattle.model.specs.Rows.{mandatory_missing}
use Rattle.model.specs.Loads.{State, with_running, with_progress, running_open, held_dropped}
use Rattle.model.specs.Rules.{Result, went, asked, failed}
use Rattle.model.specs.Command.{is_shut}
use Rattle.theorem_sound.proofs.Inside.{Steady}
use Rattle.walk_course.specs.Steps.{state_of}
use Rattle.walk_step.specs.Paces.{Paced}
use Rattle.walk_command.specs.declared.End.{End}
use Rattle.walk_command.specs.declared.End.TheVariants.{Done, Asked, Failed}

abbrev pub end_of : End → State → Result ℕ
end_of Done s = went 0 s
end_of (Asked t) s = asked t s
end_of (Failed w) s = failed w s

-- the end, the place of the last step and the state are those of a walk, and the state is sound
pub record Walked (end : End) (place : ℕ) (load : Loading) (area : List ℕ) (x : Paced) : Type 0 where
  pub ends : end_of end (state_of load area) ≡ x.result
  pub places : place ≡ x.place
  pub steady : Steady area_size (state_of load area)

-- "a missing mandatory row or open value is '6985'"
abbrev pub end_word : Running → ℕ
end_word p = cond (not (mandatory_missing p.rows) && is_shut p.pending) 0x9000 0x6985

-- "In '5A' it locks; in 'CC' and 'A5' nothing changes by it."
abbrev pub erred_as : ℕ → Running → Said
erred_as w p =
    cond (eqb p.internal 0x5A) (record { word = w; running = running_open Shut p; locks = true })
    (record { word = w; running = p; locks = false })

-- the card of a command that came to this, by the loading part that its walk left
abbrev pub settled_card : Said → Card → Loading → Card
settled_card x c l =
    cond x.locks
    (record {
      chip = c.chip;
      life = record { gp = 0x87; selected = false; name = c.life.name; namelen = c.life.namelen };
      loading = with_progress x.running (held_dropped l.running.pending l.held) l;
    })
    (with_loading (with_running x.running l) c)

-- the word, the card and the file area are those of a reply
pub record Settles (x : Said) (c : Card) (l : Loading) (a : List ℕ) (r : Reply) : Type 0 where
  pub says : x.word ≡ r.word
  pub leaves : settled_card x c l ≡ r.card
  pub keeps : a ≡ r.area
