-- `sound_card::secrets_ok`: `secrets_ok` of all five is that of those from i on; a secret over 64 bytes stops it,
-- any other steps it on, and of none it is true.
use Prim.Native.Nat.{◌≤◌, ◌<◌}
use mathlib.Core.Path.{sym, ◌∙◌}
use native.Mathlib.Omega.{arith}
use lib.ListN.{length}
use borrow.Author.Rules.{rules}
use Rattle.sound_open.proofs.Laws.{secrets_step, secrets_stop, secrets_end}
use Rattle.sound_card.proofs.secrets_ok.Goals as goal

pub returns-then-x-gt-SECRET_ROOM : goal.returns-then-x-gt-SECRET_ROOM
returns-then-x-gt-SECRET_ROOM c =
    let l = c.loop-i in
    let s = c.args.secrets in
    let fits : l.i < length s = search rules in
    sym (l.invariant.1 ∙ secrets_stop s l.i fits c.if-x-gt-SECRET_ROOM.true)

pub loop-i-preserved : goal.loop-i-preserved
loop-i-preserved c =
    let l = c.loop-i in
    let s = c.args.secrets in
    let fits : l.i < length s = search rules in
    (omega arith, l.invariant.1 ∙ secrets_step s l.i fits c.if-x-gt-SECRET_ROOM.false)

pub returns : goal.returns
returns c =
    let l = c.loop-i in
    let s = c.args.secrets in
    let ended : length s ≤ l.i = search rules in
    sym (l.invariant.1 ∙ secrets_end s l.i ended)
