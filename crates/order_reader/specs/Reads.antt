-- What a reader's pull hands back, in numbers: for every case of the definition's `Pulled`, and the value as a part
-- of the order.
use Rattle.std.specs.Prelude.{ℕ, ◌+◌, List}
use Rattle.lists.specs.Bytes.{part}
use Rattle.model.specs.declared.Pulled.{Pulled}
use Rattle.model.specs.declared.Pulled.TheVariants.{Ended, Broken, Grouping}
use Rattle.model.specs.Order.{pull_of}
use Rattle.order_reader.specs.declared.Found.{Found}

-- "a pull gives nothing, says which of the two, and the place stays"
abbrev pub nothing_found : ℕ → ℕ → Found
nothing_found at ending = record { tag = 0; start = 0; len = 0; next = at; ending = ending }

-- 1: "At or past the end"; 2: "where a header (rule a) or a value isn't whole"; 0: a grouping, and the next place is
-- behind it
abbrev pub found_by : Pulled → ℕ → Found
found_by Ended at = nothing_found at 1
found_by Broken at = nothing_found at 2
found_by (Grouping tag start len) at = record { tag = tag; start = start; len = len; next = start + len; ending = 0 }

unfoldable pub found_at : List ℕ → ℕ → Found
found_at order at = found_by (pull_of order at) at

-- "its value as a part"; where nothing was found it has no bytes
abbrev pub value_of : List ℕ → Found → List ℕ
value_of order f = part order f.start f.len
