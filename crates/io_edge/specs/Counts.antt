-- Counts of what was read.
use Rattle.std.specs.Prelude.{ℕ, ◌≤◌, ◌≡◌, List, length, take, Result, Ok, Err}
use Rattle.io_edge.specs.declared.ReadError.{ReadError}

-- `&xs[..n]` is in bounds and has n elements. The second part follows from the first; it is what `&xs[..n]` asks.
abbrev pub IsPrefixLen : ℕ → List ℕ → Type 0
IsPrefixLen n xs = (n ≤ length xs) × (n ≡ length (take n xs))

-- how many bytes were read, where a read failed before that
abbrev pub count_in : Result ℕ ReadError → ℕ
count_in (Ok n) = n
count_in (Err e) = e.count
