-- `trace::trace_all`: the card and its area stay good from record to record.
use Rattle.model.specs.Stored.{area_size}
use Rattle.theorem_sound.specs.Keeps.{Good}
use Rattle.trace.proofs.trace_all.Given as goal

abbrev pub invariant-loop-r : goal.invariant-loop-r
invariant-loop-r l = Good area_size l.s.card l.area
