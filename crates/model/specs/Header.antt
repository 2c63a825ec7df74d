-- A grouping's header.
use Rattle.std.specs.Prelude.{ℕ, cond, List, eqb, ltb, length}
use Rattle.lists.specs.Bytes.{byte_at, word_at}
use Rattle.model.specs.declared.Header.{Header}
use Rattle.model.specs.declared.Header.TheVariants.{Torn, Whole}

abbrev pub headed : ℕ → ℕ → ℕ → Header
headed t s l = Whole (record { tag = t; size = s; len = l })

-- "'FF' and 2 bytes ('0000' to 'FFFE'; short values allowed)"
unfoldable pub long_form : List ℕ → Header
long_form b = cond (ltb (length b) 5) Torn (cond (eqb (word_at b 3) 0xFFFF) Torn (headed (word_at b 0) 5 (word_at b 3)))

-- "Tag 2 bytes; length 1 byte ('00' to 'FE') or 'FF' and 2 bytes": the header that bytes begin with
unfoldable pub header_of : List ℕ → Header
header_of b = cond (ltb (length b) 3) Torn (cond (eqb (byte_at b 2) 0xFF) (long_form b)
    (headed (word_at b 0) 3 (byte_at b 2)))
