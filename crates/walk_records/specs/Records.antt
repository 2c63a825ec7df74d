-- A record's bytes, as a step says them.
use Rattle.std.specs.Prelude.{ℕ, zero, suc, ◌+◌, ◌-◌, min}
use Rattle.model.specs.declared.Open.TheVariants.{Shut, Record}
use Rattle.model.specs.declared.Running.{Running}
use Rattle.model.specs.Loads.{running_taken, running_last, running_open}
use Rattle.walk_course.specs.declared.Course.TheVariants.{Lays}
use Rattle.walk_course.specs.declared.Step.{Step}

-- "Row 11 is taken when the value's last byte is": a value that misses so much
unfoldable pub record_run : ℕ → ℕ → ℕ → Running → Running
record_run tag written zero p = running_last tag (running_taken 11 (running_open Shut p))
record_run tag written (suc m) p = running_open (Record tag written (suc m)) p

-- "written as they come, from the record's start": so many of those that are missing as there are
abbrev pub record_step : Running → ℕ → ℕ → ℕ → ℕ → ℕ → ℕ → Step
record_step p base tag written missing len at =
    let n = min missing (len - at) in
    record { course = Lays (base + written) at (at + n); running = record_run tag (written + n) (missing - n) p }
