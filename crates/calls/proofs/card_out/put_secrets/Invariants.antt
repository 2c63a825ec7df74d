-- `calls::put_secrets`: after i turns the first i secrets are laid, 72 bytes each (`puts_next`).
use Rattle.std.proofs.Common.{◌≡◌, ◌*◌, length, take}
use Rattle.lists.specs.Over.{overwrite}
use Rattle.calls.specs.Stores.{secrets_bytes}
use Rattle.calls.proofs.card_out.put_secrets.Given as goal

abbrev pub invariant-loop-i : goal.invariant-loop-i
invariant-loop-i l =
    (length l.b ≡ length l.initial.b) × (l.b ≡ overwrite l.initial.b 690 (secrets_bytes (take l.i l.s-items)))
    × (length (secrets_bytes (take l.i l.s-items)) ≡ 72 * l.i)
