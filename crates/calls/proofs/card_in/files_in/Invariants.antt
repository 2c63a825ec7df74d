-- `calls::files_in`: after i turns the first i descriptors are those of `files_from`; at the end all 31 are.
use Rattle.std.proofs.Common.{◌≡◌, length, take}
use Rattle.calls.specs.Cards.{files_from}
use Rattle.calls.proofs.card_in.files_in.Given as goal

abbrev pub invariant-loop-i : goal.invariant-loop-i
invariant-loop-i l = (length l.d-items ≡ 31) × (take l.i l.d-items ≡ files_from l.i l.b)
