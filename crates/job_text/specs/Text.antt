-- What a job text gives: its bytes, the line of each, and its first fault.
use Rattle.std.specs.Prelude.{ℕ, ◌+◌, min, cond, List, [], ◌∷◌, ◌++◌, eqb, length, Option, None, Some}
use Rattle.lists.specs.Over.{overwrite}
use Rattle.job_text.specs.declared.Mode.{Mode}
use Rattle.job_text.specs.declared.Mode.TheVariants.{Mark, Between, Half, Comment, Wrong}
use Rattle.job_text.specs.declared.Fault.{Fault}
use Rattle.job_text.specs.declared.Place.{Place}
use Rattle.job_text.specs.declared.Reading.{Reading}
use Rattle.job_text.specs.Places.{place, no_digit, half_byte, step, byte_of, bytes_in, lines_in}

-- The place behind characters, the bytes that they complete, and the lines of those.
unfoldable pub place_from : Place → List ℕ → Place
place_from p [] = p
place_from p (x ∷ xs) = place_from (step p x) xs

unfoldable pub bytes_from : Place → List ℕ → List ℕ
bytes_from p [] = []
bytes_from p (x ∷ xs) = bytes_in (byte_of p.mode x) ++ bytes_from (step p x) xs

unfoldable pub lines_from : Place → List ℕ → List ℕ
lines_from p [] = []
lines_from p (x ∷ xs) = lines_in (byte_of p.mode x) p.line ++ lines_from (step p x) xs

abbrev pub reading : Place → ℕ → Reading
reading p n = record { place = p; count = n }

-- A text begins at line 1 and column 1, perhaps with a mark.
abbrev pub first : Place
first = place (Mark 0) 1 1

abbrev pub begun : Reading
begun = reading first 0

-- What a reading becomes by characters, where there is room for so many bytes in all.
abbrev pub reached : ℕ → Reading → List ℕ → Reading
reached room r xs = reading (place_from r.place xs) (min (r.count + length (bytes_from r.place xs)) room)

-- What the lent memory has then: the bytes and their lines over it, from the reading's count on.
abbrev pub laid_bytes : Reading → List ℕ → List ℕ → List ℕ
laid_bytes r xs out = overwrite out r.count (bytes_from r.place xs)

abbrev pub laid_lines : Reading → List ℕ → List ℕ → List ℕ
laid_lines r xs lines = overwrite lines r.count (lines_from r.place xs)

-- The text's end: a mark that is torn, or half a byte, is the fault there.
abbrev pub end_in : Mode → Mode
end_in (Mark n) = cond (eqb n 0) (Mark n) no_digit
end_in Between = Between
end_in (Half high) = half_byte
end_in Comment = Comment
end_in (Wrong kind) = Wrong kind

abbrev pub ended : Reading → Reading
ended r = reading (place (end_in r.place.mode) r.place.line r.place.column) r.count

-- A fault is told by kind, line and column, never by what stands there.
pub record Told : Type 0 where
  pub kind : Fault
  pub line : ℕ
  pub column : ℕ

abbrev pub fault_in : Mode → ℕ → ℕ → Option Told
fault_in (Mark n) line column = None
fault_in Between line column = None
fault_in (Half high) line column = None
fault_in Comment line column = None
fault_in (Wrong kind) line column = Some (record { kind = kind; line = line; column = column })

abbrev pub fault_of : Reading → Option Told
fault_of r = fault_in r.place.mode r.place.line r.place.column

-- A whole text.

pub record Text : Type 0 where
  pub bytes : List ℕ
  pub lines : List ℕ
  pub fault : Option Told

abbrev pub text_of : List ℕ → Text
text_of xs =
    record {
      bytes = bytes_from first xs;
      lines = lines_from first xs;
      fault = fault_of (ended (reading (place_from first xs) 0));
    }
