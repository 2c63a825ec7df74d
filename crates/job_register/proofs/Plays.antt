-- A session that is played, and the end behind its lines.
use Prim.Native.Nat.{ℕ, ◌*◌}
use mathlib.Core.Path.{◌≡◌, sym, ◌∙◌}
use mathlib.Core.List.{List}
use native.Mathlib.Nat.{zero-add}
use lib.ListN.{length}
use Rattle.lists.specs.Bytes.{zeros}
use Rattle.lists.specs.Over.{overwrite, over_then}
use Rattle.model.specs.declared.Card.{Card}
use Rattle.model.specs.Stored.{area_size}
use Rattle.model.specs.Session.{fresh_of, events_in}
use Rattle.model.specs.Lines.{end_of}
use Rattle.register_entries.specs.Entries.{Register, entered_of, printed, Enters}
use Rattle.register_entries.proofs.Entries.{lines_sized}
use Rattle.job_register.specs.declared.Entry.{Entry}
use Rattle.job_register.specs.Jobs.{entered_as, played_of}

-- END goes behind the last line
pub ends : (chip bytes out lines out' : List ℕ) (card : Card) (area : List ℕ) (count : ℕ)
    → Enters (entered_of (events_in bytes) 0 (fresh_of chip).card (zeros area_size) bytes) card area count out lines
    → out' ≡ overwrite lines (events_in bytes * 26) (end_of count)
    → out' ≡ overwrite out 0 (printed (played_of chip bytes))
unfolding played_of
ends chip bytes out lines out' card area count x e =
    let g = entered_of (events_in bytes) 0 (fresh_of chip).card (zeros area_size) bytes in
    let n : length g.lines ≡ events_in bytes * 26 =
    lines_sized 0 (fresh_of chip).card (zeros area_size) bytes out (events_in bytes) in
    e ∙ rw (x.writes, x.counts)
    (sym (over_then g.lines (end_of g.count) out 0 (events_in bytes * 26) (zero-add _ ∙ n)))

-- what the answer tells of the card is told of the register's
pub answered : (n : ℕ) (g : Register) (card : Card) → card ≡ g.card
    → ◌≡◌ {A = Entry}
    (record {
      number = 0;
      events = n;
      gp = card.life.gp;
      internal = card.loading.running.internal;
      serial = card.loading.serial;
    }) (entered_as n g)
answered n g card e = rw e
