-- `lot::put_line`: nothing that stood there goes, and what is left of the name has room.
use Rattle.std.proofs.Common.{◌+◌, ◌≤◌, length}
use Rattle.lot.proofs.line.put_line.Given as goal

abbrev pub invariant-loop-c : goal.invariant-loop-c
invariant-loop-c g l =
    (length l.initial.lines ≤ length l.lines) × (length l.lines ≤ length l.initial.lines + l.c-index)
