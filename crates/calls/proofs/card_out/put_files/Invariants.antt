-- `calls::put_files`: after i turns the first i descriptors are laid, 18 bytes each (`puts_next`).
use Rattle.std.proofs.Common.{◌≡◌, ◌*◌, length, take}
use Rattle.lists.specs.Over.{overwrite}
use Rattle.calls.specs.Stores.{files_bytes}
use Rattle.calls.proofs.card_out.put_files.Given as goal

abbrev pub invariant-loop-i : goal.invariant-loop-i
invariant-loop-i l =
    (length l.b ≡ length l.initial.b) × (l.b ≡ overwrite l.initial.b 105 (files_bytes (take l.i l.d-items)))
    × (length (files_bytes (take l.i l.d-items)) ≡ 18 * l.i)
