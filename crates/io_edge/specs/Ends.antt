-- How a program ends.
use Rattle.std.specs.Prelude.{ℕ}
use Rattle.io_edge.specs.declared.status.Failure.{Failure}
use Rattle.io_edge.specs.declared.status.Failure.TheVariants as F
use Rattle.io_edge.specs.declared.status.Status.{Status}
use Rattle.io_edge.specs.declared.status.Status.TheVariants as S

-- the number of a status: who started a program reads it on descriptor 3
abbrev pub number_of : Status → ℕ
number_of S.Done = 0
number_of S.Refused = 1
number_of S.NotDone = 2
number_of S.Gone = 4

-- what a program tells that was given up
abbrev pub status_with : Failure → Status
status_with F.NotDone = S.NotDone
status_with F.Gone = S.Gone
