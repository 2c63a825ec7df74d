-- Where a character brings the reader of a job text, and the byte that it completes.
use Rattle.std.specs.Prelude.{ℕ, ◌+◌, ◌*◌, ◌%◌, min, cond, List, [], ◌∷◌, eqb, Option, None, Some}
use Rattle.job_text.specs.declared.Sort.{Sort}
use Rattle.job_text.specs.declared.Sort.TheVariants.{Digit, Blank, Break, Hash, Other}
use Rattle.job_text.specs.declared.Mode.{Mode}
use Rattle.job_text.specs.declared.Mode.TheVariants.{Mark, Between, Half, Comment, Wrong}
use Rattle.job_text.specs.declared.Fault.TheVariants.{NoDigit, HalfByte}
use Rattle.job_text.specs.declared.Place.{Place}
use Rattle.job_text.specs.Characters.{sort_of}

abbrev pub place : Mode → ℕ → ℕ → Place
place m line column = record { mode = m; line = line; column = column }

-- The next line or column: they count to 0xFFFFFFFF and stop there.
abbrev pub more : ℕ → ℕ
more n = min (n + 1) 0xFFFFFFFF

-- No hexadecimal digit where one may stand, and half a byte.
abbrev pub no_digit : Mode
no_digit = Wrong NoDigit

abbrev pub half_byte : Mode
half_byte = Wrong HalfByte

-- Between pairs. A digit's own place is kept until its pair is whole.
abbrev pub from_between : ℕ → ℕ → Sort → Place
from_between line column (Digit d) = place (Half d) line column
from_between line column Blank = place Between line (more column)
from_between line column Break = place Between (more line) 1
from_between line column Hash = place Comment line (more column)
from_between line column Other = place no_digit line column

-- Behind the first digit of a pair, whose place it is.
abbrev pub from_half : ℕ → ℕ → Sort → Place
from_half line column (Digit d) = place Between line (more (more column))
from_half line column Blank = place half_byte line column
from_half line column Break = place half_byte line column
from_half line column Hash = place half_byte line column
from_half line column Other = place no_digit line (more column)

-- In a comment, which a line feed ends.
abbrev pub from_comment : ℕ → ℕ → ℕ → Place
from_comment line column x = cond (eqb x 0x0A) (place Between (more line) 1) (place Comment line (more column))

-- With n bytes of the mark EF BB BF passed, which take no column.
abbrev pub from_mark : ℕ → ℕ → ℕ → ℕ → Place
from_mark n line column x =
    cond (eqb n 0) (cond (eqb x 0xEF) (place (Mark 1) line column) (from_between line column (sort_of x)))
    (cond (eqb n 1) (cond (eqb x 0xBB) (place (Mark 2) line column) (place no_digit line column))
    (cond (eqb x 0xBF) (place Between line column) (place no_digit line column)))

abbrev pub step_in : Mode → ℕ → ℕ → ℕ → Place
step_in (Mark n) line column x = from_mark n line column x
step_in Between line column x = from_between line column (sort_of x)
step_in (Half d) line column x = from_half line column (sort_of x)
step_in Comment line column x = from_comment line column x
step_in (Wrong kind) line column x = place (Wrong kind) line column

-- One character.
abbrev pub step : Place → ℕ → Place
step p x = step_in p.mode p.line p.column x

-- The byte of two digits, the first the high one.
abbrev pub pair_of : ℕ → Sort → Option ℕ
pair_of high (Digit low) = Some (high % 16 * 16 + low % 16)
pair_of high Blank = None
pair_of high Break = None
pair_of high Hash = None
pair_of high Other = None

-- The byte that a character completes.
abbrev pub byte_of : Mode → ℕ → Option ℕ
byte_of (Mark n) x = None
byte_of Between x = None
byte_of (Half high) x = pair_of high (sort_of x)
byte_of Comment x = None
byte_of (Wrong kind) x = None

-- As lists of none or one: the byte, and the line of its digits, which stand side by side.
abbrev pub bytes_in : Option ℕ → List ℕ
bytes_in None = []
bytes_in (Some b) = b ∷ []

abbrev pub lines_in : Option ℕ → ℕ → List ℕ
lines_in None line = []
lines_in (Some b) line = line ∷ []
