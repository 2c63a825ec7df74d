-- What a program tells of a session that it could read.
use Rattle.io_edge.specs.declared.status.Status.{Status}
use Rattle.io_edge.specs.declared.status.Status.TheVariants.{Refused}
use Rattle.io_playing.specs.declared.Ending.{Ending}
use Rattle.io_playing.specs.declared.Ending.TheVariants.{NoSession, Played}

abbrev pub status_after : Ending → Status
status_after NoSession = Refused
status_after (Played status) = status
