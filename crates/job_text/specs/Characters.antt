-- What a character of a job text is by itself.
use Rattle.std.specs.Prelude.{ℕ, ◌-◌, cond, eqb, ltb, leb}
use Rattle.job_text.specs.declared.Sort.{Sort}
use Rattle.job_text.specs.declared.Sort.TheVariants.{Digit, Blank, Break, Hash, Other}

-- Blank, tab and CR are blanks, a line feed breaks the line, and `#` begins a comment.
abbrev pub sign_of : ℕ → Sort
sign_of x =
    cond (eqb x 0x20) Blank
    (cond (eqb x 0x09) Blank
    (cond (eqb x 0x0D) Blank
    (cond (eqb x 0x0A) Break
    (cond (eqb x 0x23) Hash Other))))

-- The digits stand at 30 to 39, 41 to 46 and 61 to 66: 0 to 9, A to F, a to f.
unfoldable pub sort_of : ℕ → Sort
sort_of x =
    cond (ltb x 0x30) (sign_of x)
    (cond (leb x 0x39) (Digit (x - 0x30))
    (cond (ltb x 0x41) Other
    (cond (leb x 0x46) (Digit (x - 0x37))
    (cond (ltb x 0x61) Other
    (cond (leb x 0x66) (Digit (x - 0x57)) Other)))))
