-- `trace::trace_blocks`: the card and its area stay good from block to block.
use Rattle.model.specs.Stored.{area_size}
use Rattle.theorem_sound.specs.Keeps.{Good}
use Rattle.trace.proofs.trace_blocks.Given as goal

abbrev pub invariant-loop : goal.invariant-loop
invariant-loop l = Good area_size l.s.card l.area
