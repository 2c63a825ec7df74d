-- A grouping's content is judged first, and then kept.
use Rattle.std.specs.Prelude.{ℕ, cond, List, eqb, ltb}
use Rattle.model.specs.Rules.{startup_ok}

-- the word that a content gets: only '2100' has a form of its own
abbrev pub word_of : ℕ → ℕ → List ℕ → ℕ
word_of capacity row v = cond (eqb row 3) (cond (startup_ok v) (cond (ltb capacity 6) 0x6A84 0x9000) 0x6A80) 0x9000
