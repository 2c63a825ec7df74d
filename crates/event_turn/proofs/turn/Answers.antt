-- `event_turn::turn`: a fault refuses the record (`fault_turn`), else it is an event (`event_turn`), whose data are
-- as many bytes as byte 3 says.
use Prim.Native.Nat.{◌+◌, ◌-◌}
use mathlib.Core.Path.{◌≡◌, sym, ◌∙◌}
use native.Mathlib.Omega.{arith}
use Rattle.lists.specs.Bytes.{byte_at}
use Rattle.event_replies.proofs.Replies.{played, refused, fault_turn, event_turn}
use Rattle.event_turn.proofs.turn.Goals as goal

pub returns-then-number-ne0 : goal.returns-then-number-ne0
returns-then-number-ne0 c =
    let s = c in
    let n = c.fault_in-number.ensures in
    rw (
      c.refused_by.ensures,
      fault_turn s.args.c s.args.area.now s.args.r.now
          (λ e. c.if-number-ne0.true (n ∙ e)),
      ← n,
    ) (refused _ _ _ _)

pub returns : goal.returns
returns c =
    let s = c in
    let told = c.turned_by.ensures in
    let e = sym c.fault_in-number.ensures ∙ c.if-number-ne0.false in
    let k : 4 + c.wide-end.result - 4
    ≡ byte_at s.args.r.now 3 = rw c.wide-end.ensures.0 (omega arith) in
    rw (event_turn s.args.c s.args.area.now s.args.r.now e) (played told.0 (rw k at told.1))
