-- `io_playing::play_all`: the card stays good, the count under 100000, the buffers as long as they are, the lines have
-- room for those of another block, and who says what is wrong with the source stays.
use Rattle.std.proofs.Common.{◌≡◌, ◌+◌, ◌≤◌, ◌<◌}
use Rattle.model.specs.Stored.{area_size}
use Rattle.theorem_sound.specs.Keeps.{Good}
use Rattle.io_playing.proofs.play_all.Given as goal

abbrev pub invariant-loop : goal.invariant-loop
invariant-loop l =
    Good area_size l.s.card l.area × (l.s.count < 100000) × (l.s.gathered + 3276 ≤ 32760)
    × (l.source.voice ≡ l.initial.source.voice) × (l.source.is_text ≡ l.initial.source.is_text)
