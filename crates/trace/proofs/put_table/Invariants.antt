-- `trace::put_table`: nothing that stood there goes.
use Rattle.std.proofs.Common.{◌≤◌, length}
use Rattle.trace.proofs.put_table.Given as goal

abbrev pub invariant-loop-d : goal.invariant-loop-d
invariant-loop-d l = length l.initial.out ≤ length l.out
