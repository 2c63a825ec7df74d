-- `io_intake::take_text`: room and lines keep their lengths, and the count stays within the room.
use Rattle.std.proofs.Common.{◌≡◌, ◌≤◌, length}
use Rattle.io_intake.proofs.take_text.Given as goal

abbrev pub invariant-loop : goal.invariant-loop
invariant-loop g l =
    (length l.room ≡ length l.initial.room) × (length l.lines ≡ length l.initial.lines) × (l.reading.count ≤ length l.room)
