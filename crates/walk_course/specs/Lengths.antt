-- What rule f leaves of a value: a length that its row allows.
use Rattle.std.specs.Prelude.{ℕ, ◌%◌, ◌≤◌, ◌≡◌, Bool, ◌&&◌, leb, eqb}
use Rattle.model.specs.declared.Row.{Row}

-- a length that a row's constants allow, in so much room
abbrev pub fits_row : Row → ℕ → ℕ → Bool
fits_row x room len = leb x.least len && leb len room && eqb (len % x.step) 0

-- the lengths of the facts, and of a secret: what rule f leaves of a row that stays whole
pub record Sized (row n : ℕ) : Type 0 where
  pub serial : row ≡ 2 → n ≡ 8
  pub startup : row ≡ 3 → n ≡ 7
  pub counter : row ≡ 4 → n ≡ 3
  pub secret : n ≤ 64
  pub most : row ≤ 10
