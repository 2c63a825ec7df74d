-- `register_whole::reads`: the first i characters agree, so the whole is the same if what is behind them is;
-- `read_step` adds one, `read_stop` finds one that differs, `read_end` has none left.
use Prim.Native.Nat.{◌-◌, ◌≤◌}
use mathlib.Core.Path.{◌≡◌}
use lib.ListN.{length, drop}
use Rattle.lists.specs.Bytes.{part, same}
use Rattle.register_whole.proofs.reads.Given as goal

abbrev pub invariant-loop-i : goal.invariant-loop-i
invariant-loop-i l =
    (l.i ≤ length l.text) × (same (part l.s l.at (length l.text)) l.text ≡ same (drop l.i (part l.s l.at (length l.text))) (drop l.i l.text))

abbrev pub decreases-loop-i : goal.decreases-loop-i
decreases-loop-i l =
    length l.text - l.i
