-- `event_kinds::fault_in`: `is_kind` and `zero_from` tell the two Bools by which `fault` chooses, 4 before 5.
use Rattle.model.specs.Stored.{padded_zero}
use Rattle.event_kinds.specs.Faults.{fault}
use Rattle.event_kinds.proofs.fault_in.Goals as goal

pub returns-then-not-known : goal.returns-then-not-known
unfolding fault padded_zero
returns-then-not-known c =
    let zero = c in
    let kind = zero in
    rw (← kind.is_kind-known.ensures, ← zero.wide.ensures.0, ← zero.zero_from-padded.ensures, c.if-not-known.true)

pub returns-then-not-padded : goal.returns-then-not-padded
unfolding fault padded_zero
returns-then-not-padded c =
    let zero = c in
    let kind = zero in
    rw (
      ← kind.is_kind-known.ensures,
      ← zero.wide.ensures.0,
      ← zero.zero_from-padded.ensures,
      c.if-not-known.false,
      c.if-not-padded.true,
    )

pub returns : goal.returns
unfolding fault padded_zero
returns c =
    let zero = c in
    let kind = zero in
    rw (
      ← kind.is_kind-known.ensures,
      ← zero.wide.ensures.0,
      ← zero.zero_from-padded.ensures,
      c.if-not-known.false,
      c.if-not-padded.false,
    )
