-- `trace::put_facts`: nothing that stood there goes.
use Rattle.std.proofs.Common.{◌≤◌, length}
use Rattle.trace.proofs.put_facts.Given as goal

abbrev pub invariant-loop-s : goal.invariant-loop-s
invariant-loop-s l = length l.initial.out ≤ length l.out
