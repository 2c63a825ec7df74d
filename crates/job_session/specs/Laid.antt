-- What a job's session leaves in the room.
use Rattle.std.specs.Prelude.{ℕ, ◌-◌, ◌≡◌, cond, List, [], ◌++◌, eqb, length}
use Rattle.lists.specs.Over.{overwrite}
use Rattle.model.specs.declared.Written.{Written}
use Rattle.model.specs.Stored.{chip_size}
use Rattle.model.specs.Order.{Writing, write_of}
use Rattle.theorem_cutting.specs.Job.{session_of}
use Rattle.job_session.specs.declared.Job.{Job}

-- INSTALL and SELECT
abbrev pub front_size : ℕ
front_size = 520

-- the writer's numbers and records, where the room has to hold INSTALL and SELECT too
abbrev pub session_writing : List ℕ → List ℕ → ℕ → Writing
session_writing chip order room = write_of chip order (room - front_size)

-- INSTALL, SELECT and the records; nothing where the writer refuses
unfoldable pub session_bytes : Writing → List ℕ
session_bytes w = cond (eqb w.number 0) (session_of w.records) []

-- what `cut` prints: the chip record, and then the session; nothing where the writer refuses
unfoldable pub job_bytes : List ℕ → Writing → List ℕ
job_bytes chip w = cond (eqb w.number 0) (chip ++ session_of w.records) []

-- the writer's numbers and records, where the room has to hold the chip record too
abbrev pub job_writing : List ℕ → List ℕ → ℕ → Writing
job_writing chip order room = session_writing chip order (room - chip_size)

-- number, length and every byte of the room
pub record LaysJob (chip : List ℕ) (w : Writing) (before : List ℕ) (r : Job) (after : List ℕ) : Type 0 where
  pub number : r.number ≡ w.number
  pub size : r.size ≡ length (job_bytes chip w)
  pub room : after ≡ overwrite before 0 (job_bytes chip w)

-- number, count and every byte of the room
pub record Lays (w : Writing) (before : List ℕ) (r : Written) (after : List ℕ) : Type 0 where
  pub number : r.number ≡ w.number
  pub count : r.count ≡ length w.records
  pub room : after ≡ overwrite before 0 (session_bytes w)
