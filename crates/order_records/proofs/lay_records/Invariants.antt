-- `order_records::lay_records`: the records laid so far and those of the commands left are all the records (`Laid`),
-- and there is room for those left. The last is laid behind the loop, with P1 '80'.
use Prim.Native.Nat.{◌-◌}
use lib.ListN.{length}
use Rattle.model.specs.Stored.{record_size}
use Rattle.order_records.proofs.Records.{Laid}
use Rattle.order_records.proofs.lay_records.Given as goal

abbrev pub invariant-loop-end : goal.invariant-loop-end
invariant-loop-end l =
    Laid l.order l.initial.room record_size l.room l.start l.end l.to

abbrev pub decreases-loop-end : goal.decreases-loop-end
decreases-loop-end l =
    length l.order - l.end.at
