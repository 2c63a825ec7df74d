-- "The register of a job": what `replay` prints of the session that its order is cut into; or the job's refusal.
use Rattle.std.specs.Prelude.{ℕ, ◌+◌, ◌*◌, ◌≤◌, ◌≡◌, cond, not, List, [], eqb, ltb, length}
use Rattle.lists.specs.Bytes.{zeros}
use Rattle.lists.specs.Over.{overwrite}
use Rattle.model.specs.Stored.{area_size}
use Rattle.model.specs.Session.{fresh_of, events_in}
use Rattle.model.specs.Order.{Writing, no_writing}
use Rattle.theorem_cutting.specs.Job.{session_of}
use Rattle.register_entries.specs.Entries.{Register, entered_of, printed}
use Rattle.job_session.specs.Laid.{session_writing, session_bytes}
use Rattle.job_register.specs.declared.Entry.{Entry}

-- 47 lines of 26 characters, and END
abbrev pub line_room : ℕ
line_room = 1232

-- how much of the room the records may take: none where the lines lack room
abbrev pub record_room : ℕ → ℕ → ℕ
record_room records lines = cond (ltb lines line_room) 0 records

-- number 1, and then the writer's; 11 too where the lines lack room. The numbers are the lent memory's lengths: the
-- area's, the records' and the lines'.
unfoldable pub job_writing : List ℕ → List ℕ → ℕ → ℕ → ℕ → Writing
job_writing chip order area records lines =
    cond (not (eqb area area_size)) (no_writing 1) (session_writing chip order (record_room records lines))

-- how many events the records make, with INSTALL and SELECT
abbrev pub events_of : Writing → ℕ
events_of w = 2 + length w.records

-- a fresh card of the chip plays them
unfoldable pub register_of : List ℕ → Writing → Register
register_of chip w = entered_of (events_of w) 0 (fresh_of chip).card (zeros area_size) (session_of w.records)

abbrev pub refused_as : ℕ → Entry
refused_as n = record { number = n; events = 0; gp = 0x00; internal = 0x00; serial = zeros 8 }

abbrev pub entered_as : ℕ → Register → Entry
entered_as n g =
    record {
      number = 0;
      events = n;
      gp = g.card.life.gp;
      internal = g.card.loading.running.internal;
      serial =
          g.card.loading.serial;
    }

unfoldable pub entry_of : List ℕ → Writing → Entry
entry_of chip w = cond (eqb w.number 0) (entered_as (events_of w) (register_of chip w)) (refused_as w.number)

-- the characters, and the file area then; a refused job has none, and leaves the area
unfoldable pub text_of : List ℕ → Writing → List ℕ
text_of chip w = cond (eqb w.number 0) (printed (register_of chip w)) []

unfoldable pub area_of : List ℕ → Writing → List ℕ → List ℕ
area_of chip w a = cond (eqb w.number 0) (register_of chip w).area a

-- the answer and every byte of the lent memory: records, file area, lines
pub record Registers (chip : List ℕ) (w : Writing) (room area out : List ℕ) (r : Entry)
    (room' area' out' : List ℕ) : Type 0 where
  pub answers : r ≡ entry_of chip w
  pub lays : room' ≡ overwrite room 0 (session_bytes w)
  pub keeps : area' ≡ area_of chip w area
  pub prints : out' ≡ overwrite out 0 (text_of chip w)

-- a chip record, a session of so many whole records, and room to play it: what the playing asks
pub record Session (chip bytes : List ℕ) (area lines : ℕ) : Type 0 where
  pub full : area ≡ area_size
  pub room : events_in bytes * 26 + 10 ≤ lines

-- and what it leaves
unfoldable pub played_of : List ℕ → List ℕ → Register
played_of chip bytes = entered_of (events_in bytes) 0 (fresh_of chip).card (zeros area_size) bytes

pub record Plays (chip bytes out : List ℕ) (r : Entry) (area' out' : List ℕ) : Type 0 where
  pub answers : r ≡ entered_as (events_in bytes) (played_of chip bytes)
  pub keeps : area' ≡ (played_of chip bytes).area
  pub prints : out' ≡ overwrite out 0 (printed (played_of chip bytes))
