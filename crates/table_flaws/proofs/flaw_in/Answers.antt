-- `table_flaws::flaw_in`: `take count files` has length `count` (`length-take-le`): 31 is `TooMany`, below it the
-- access flaw over the kind's is `flaw_of`.
use Prim.Native.Nat.{◌≤◌}
use native.Mathlib.Omega.{arith}
use lib.ListN.{length}
use lib.Seq.{length-take-le}
use borrow.Author.Tests.{lt-ltb, le-ltb}
use Rattle.table_flaws.specs.Flaws.{flaw_of}
use borrow.Author.Rules.{rules}
use Rattle.table_flaws.proofs.flaw_in.Goals as goal

pub returns-then-count-ge-TABLE_LIMIT : goal.returns-then-count-ge-TABLE_LIMIT
unfolding flaw_of
returns-then-count-ge-TABLE_LIMIT c =
    let a = c.args in
    let fits : a.count ≤ length a.files = search rules in
    rw (length-take-le _ _ fits, le-ltb a.count 31 (omega arith))

pub returns : goal.returns
unfolding flaw_of
returns c =
    let a = c.args in
    let fits : a.count ≤ length a.files = search rules in
    let few = lt-ltb a.count 31 (omega arith) in
    rw (c.access_flaw.ensures, c.kind_flaw-later.ensures, length-take-le _ _ fits, few)
