-- `sound_card::secrets_ok`: `secrets_ok` of all five is that of those from i on; a secret over 64 bytes stops it,
-- any other steps it on, and of none it is true.
use Prim.Native.Nat.{◌-◌, ◌≤◌}
use mathlib.Core.Path.{◌≡◌}
use lib.ListN.{drop}
use Rattle.model.specs.Sound.{secrets_ok}
use Rattle.sound_card.proofs.secrets_ok.Given as goal

abbrev pub invariant-loop-i : goal.invariant-loop-i
invariant-loop-i l =
    (l.i ≤ 5) × (secrets_ok l.secrets ≡ secrets_ok (drop l.i l.secrets))

abbrev pub decreases-loop-i : goal.decreases-loop-i
decreases-loop-i l =
    5 - l.i
