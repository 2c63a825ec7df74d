-- Which events are commands for the walk, and what any other leaves of a card.
use Rattle.std.specs.Prelude.{ℕ, Bool, cond, not, ◌&&◌, ◌||◌, List, eqb}
use Rattle.model.specs.declared.Loading.{Loading}
use Rattle.model.specs.declared.Card.{Card}
use Rattle.model.specs.Loads.{with_dropped}
use Rattle.model.specs.Events.{with_life, with_loading}
use Rattle.event_replies.specs.declared.Replied.{Replied}

-- STORE DATA with data on a selected card; in '5A' the card is not locked
unfoldable pub is_command : ℕ → ℕ → ℕ → ℕ → Bool → Bool
is_command kind n gp internal selected = eqb kind 2 && not (eqb n 0) && selected &&
    (not (eqb internal 0x5A) || eqb gp 0x07)

abbrev pub command_for : ℕ → List ℕ → Card → ℕ → Bool
command_for kind d c n = is_command kind n c.life.gp c.loading.running.internal c.life.selected

-- a card that locks drops an open value
abbrev pub dropped : Bool → Card → Card
dropped locks c = cond locks (with_loading (with_dropped c.loading) c) c

abbrev pub lived_as : Card → Replied → Card
lived_as c x = with_life x.life (dropped x.locks c)

-- a card of the same name, in whatever state
abbrev pub alike : Card → ℕ → Bool → Loading → Card
alike c g s l =
    record {
      chip = c.chip;
      life = record { gp = g; selected = s; name = c.life.name; namelen = c.life.namelen };
      loading = l;
    }
