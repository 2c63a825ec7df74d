-- THE DEMANDS, each under its own words, as theorems over the names that the contracts of the calls cite. Who doubts
-- reads this page and the definition (crates/model/specs), and nothing else.
use Prim.Native.Nat.{ℕ, ◌+◌, ◌≤◌}
use mathlib.Core.Path.{◌≡◌, ap, sym, ◌∙◌}
use mathlib.Core.Bool.{false}
use mathlib.Core.List.{List, ◌++◌}
use lib.ListN.{length}
use Rattle.lists.specs.Joined.{joined}
use Rattle.lists.specs.Truth.{never}
use Rattle.lists.specs.Over.{overwrite, over_none}
use Rattle.lists.specs.Bytes.{zeros}
use Rattle.model.specs.declared.Card.{Card}
use Rattle.model.specs.declared.Made.{Made}
use Rattle.model.specs.declared.Played.{Played}
use Rattle.model.specs.declared.Ran.{Ran}
use Rattle.model.specs.declared.Shown.{Shown}
use Rattle.model.specs.declared.Written.{Written}
use Rattle.model.specs.Stored.{chip_size, chip_of, fresh_card, event_in, area_size}
use Rattle.model.specs.Loads.{file_list}
use Rattle.model.specs.Events.{event}
use Rattle.model.specs.Session.{Turn, Session, fresh_of, play_of, run_of, shown_of}
use Rattle.model.specs.Order.{complete, records_for, Writing, write_of}
use Rattle.theorem_cutting.specs.Job.{Front, Taken, Accepted}
use Rattle.theorem_cutting.specs.Contents.{Contents, values_of}
use Rattle.theorem_cutting.proofs.Writes.{write_only, write_all}
use Rattle.theorem_cutting.proofs.Files.{write_contents}
use Rattle.theorem_secrecy.specs.View.{Hiding}
use Rattle.theorem_secrecy.specs.Demand.{SecretsStaySecret}
use Rattle.theorem_secrecy.proofs.Demand as secrecy
use Rattle.event_replies.specs.Plays.{Plays}
use Rattle.call_run.specs.Runs.{Runs}
use Rattle.order_complete.specs.Writes.{Writes, session_in}
use Rattle.order_writer.proofs.Returns.{written_taken}
use Rattle.demands.proofs.Refusals.{Refused, answered_play, told_play, told_run, told_shown, told_fresh}
use Rattle.demands.proofs.Refusals.{told_write}

-- 1. "Every call takes every input there can be, ends, and answers or refuses by number." None of their contracts has a
-- `requires`; each determines what comes back for every input. "A call refused by number changes neither the card's
-- state nor a lent byte."

pub play_refused : (c : Card) (area answer r area' answer' : List ℕ) (x : Played)
    → Plays (play_of c area (length answer) r) x area' answer answer'
    → (x.number ≤ 11) × (Refused x.number → (x.card ≡ c) × (area' ≡ area) × (answer' ≡ answer))
play_refused c area answer r area' answer' x p =
    let t = told_play c area (length answer) r in (
      rw p.numbers t.0,
      λ h.
          let e = t.1 (λ z. h (p.numbers ∙ z)) in (
            p.leaves ∙ ap (λ (u : Turn). u.card) e,
            p.keeps ∙ ap (λ (u : Turn). u.area) e,
            p.writes ∙ ap (λ (u : Turn). overwrite answer 0 u.answer) e ∙ over_none answer 0,
          ),
    )

pub run_refused : (c : Card) (area session words area' words' : List ℕ) (x : Ran)
    → Runs (run_of c area (length words) session) x area' words words'
    → (x.number ≤ 11) × (Refused x.number → (x.card ≡ c) × (area' ≡ area) × (words' ≡ words))
run_refused c area session words area' words' x p =
    let t = told_run c area (length words) session in (
      rw p.numbers t.0,
      λ h.
          let e = t.1 (λ z. h (p.numbers ∙ z)) in (
            p.leaves ∙ ap (λ (s : Session). s.run.card) e,
            p.keeps ∙ ap (λ (s : Session). s.run.area) e,
            p.writes ∙ ap (λ (s : Session). overwrite words 0 s.run.words) e ∙ over_none words 0,
          ),
    )

pub write_refused : (chip order room room' : List ℕ) (x : Written)
    → Writes (write_of chip order (length room)) room x room'
    → (x.number ≤ 11) × (Refused x.number → (x.count ≡ 0) × (room' ≡ room))
unfolding joined
write_refused chip order room room' x p =
    let t = told_write chip order (length room) in (
      rw p.number t.0,
      λ h.
          let e = t.1 (λ z. h (p.number ∙ z)) in (
            p.count ∙ ap length e,
            p.room ∙ ap (λ (l : List (List ℕ)). overwrite room 0 (joined l)) e ∙ over_none room 0,
          ),
    )

-- a shown record lends nothing that could change; a refusal shows no byte
pub shown_refused : (c : Card) (area : List ℕ) (sfi nn : ℕ) (x : Shown) → x ≡ shown_of c area sfi nn
    → (x.number ≤ 11) × (Refused x.number → (x.start ≡ 0) × (x.len ≡ 0))
shown_refused c area sfi nn x e =
    let t = told_shown c area sfi nn in
    rw e (t.0, λ h. (ap (λ (s : Shown). s.start) (t.1 h), ap (λ (s : Shown). s.len) (t.1 h)))

-- number 7 gives "the fresh card of 40 zero bytes"
pub fresh_refused : (b : List ℕ) (x : Made) → x ≡ fresh_of b
    → (x.number ≤ 11) × (Refused x.number → x.card ≡ fresh_card (chip_of (zeros chip_size)))
fresh_refused b x e = rw e (told_fresh b)

-- 2. "Each event gets the status word, answer bytes, states, file table, file contents, kept facts and secrets that the
-- Calypso download specification gives, as document 01 reads it."

pub event_as_defined : (c : Card) (area answer r area' answer' : List ℕ) (x : Played)
    → Plays (play_of c area (length answer) r) x area' answer answer' → x.number ≡ 0
    → let e = event (event_in r) c area in
    (x.word ≡ e.word) × (x.card ≡ e.card) × (area' ≡ e.area)
    × (x.answered ≡ length e.answer) × (answer' ≡ overwrite answer 0 e.answer)
event_as_defined c area answer r area' answer' x p h =
    let q = answered_play c area (length answer) r (sym p.numbers ∙ h) in (
      p.says ∙ ap (λ (t : Turn). t.word) q,
      p.leaves ∙ ap (λ (t : Turn). t.card) q,
      p.keeps ∙ ap (λ (t : Turn). t.area) q,
      p.counts ∙ ap (λ (t : Turn). length t.answer) q,
      p.writes ∙ ap (λ (t : Turn). overwrite answer 0 t.answer) q,
    )

-- "In return, each complete order of at most 8,192 bytes is cut into commands, given room, and a freshly installed and
-- selected card of that chip takes them all and ends PERSONALIZED." Installed and selected: by INSTALL '0C', or '04'
-- and '08', and SELECT, for every name of 5 to 16 bytes (`Front`). "An order that isn't complete is refused."

pub cut_is_taken : {name : List ℕ} {front : List (List ℕ)} → Front name front
    → (chip area order room room' : List ℕ) (x : Written) (wordRoom : ℕ)
    → Writes (write_of chip order (length room)) room x room'
    → Accepted chip order (length room) → length area ≡ area_size → length front + x.count ≤ wordRoom
    → (x.number ≡ 0)
    × Taken (length front + x.count) (run_of (fresh_of chip).card area wordRoom (session_in front x.count room'))
cut_is_taken f chip area order room room' x wordRoom w h a l =
    let n = w.number ∙ ap (λ (y : Writing). y.number) (write_all chip order (length room) h) in
    (n, written_taken f chip area order room room' x wordRoom w n a l)

-- its files then hold what the order says: each value in its record, and zeros elsewhere
pub files_are_filled : {name : List ℕ} {front : List (List ℕ)} → Front name front
    → (chip area order : List ℕ) (room wordRoom : ℕ)
    → Accepted chip order room → length area ≡ area_size → length (front ++ records_for order) ≤ wordRoom
    → let x = run_of (fresh_of chip).card area wordRoom (joined (front ++ records_for order)) in
    Contents (file_list x.run.card.loading) (values_of order) x.run.area
files_are_filled f chip area order room wordRoom h a l =
    let e = ap (λ (y : Writing). y.records) (write_all chip order room h) in
    let n = ap (λ (y : Writing). y.number) (write_all chip order room h) in
    rw e at (write_contents f chip area order room wordRoom n a (rw e l))

pub incomplete_refused : (chip order room room' : List ℕ) (x : Written)
    → Writes (write_of chip order (length room)) room x room' → complete (chip_of chip).capacity order ≡ false
    → Refused x.number
incomplete_refused chip order room room' x w e n =
    never (sym e ∙ (write_only chip order (length room) (sym w.number ∙ n)).complete_so)

-- 3. "Secrets stay secret. Two sessions from fresh cards of one chip, equal file areas, alike but for value bytes
-- inside activation, key or PIN groupings that pass all their checks: event by event every word, answer, state, table
-- entry, file byte and refusal is the same; the cards differ only in the kept secrets, at those bytes." Event by event,
-- shown records, sessions and what `replay` prints are its four parts (theorem_secrecy/specs/Demand).

pub secrets_stay_secret : (z : Hiding) → SecretsStaySecret z
secrets_stay_secret = secrecy.secrets_stay_secret
