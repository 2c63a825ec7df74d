-- One step of "all mandatory rows before it are taken".
use Rattle.std.specs.Prelude.{ℕ, ◌+◌, Bool, not, ◌&&◌}
use Rattle.model.specs.Rows.{row_at, taken}

-- row k + 1 of the table is mandatory and not taken
unfoldable pub lacking : ℕ → ℕ → Bool
lacking rows k = (row_at (k + 1)).mandatory && not (taken rows (k + 1))
