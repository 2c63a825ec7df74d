-- Why a grouping is not taken: the first rule that it breaks, in the rules' own order and by their own tests.
use Rattle.std.specs.Prelude.{ℕ, zero, suc, ◌+◌, ◌-◌, ◌*◌, ◌/◌, cond, ◌||◌, List, eqb, ltb, leb, length, take}
use Rattle.lists.specs.Bytes.{word_at, part}
use Rattle.model.specs.declared.Descriptor.{Descriptor}
use Rattle.model.specs.declared.Head.{Head}
use Rattle.model.specs.declared.Header.{Header}
use Rattle.model.specs.declared.Header.TheVariants.{Torn, Whole}
use Rattle.model.specs.declared.Verdict.{Verdict}
use Rattle.model.specs.declared.Verdict.TheVariants.{Passes, Refuses}
use Rattle.model.specs.Rows.{row_table, row_at, row_of, missing_from, due, descriptor_size}
use Rattle.model.specs.Header.{header_of}
use Rattle.model.specs.Table.{descriptor_of}
use Rattle.model.specs.Rules.{is_query, room_of, length_ok}
use Rattle.table_flaws.specs.declared.Flaw.{Flaw}
use Rattle.table_flaws.specs.declared.Flaw.TheVariants.{Nothing}
use Rattle.table_flaws.specs.Flaws.{flaw_of, listed}
use Rattle.reason_stops.specs.declared.Cause.{Cause}
use Rattle.reason_stops.specs.declared.Cause.TheVariants as cause
use Rattle.reason_stops.specs.declared.Stop.{Stop}

abbrev pub stop_as : ℕ → ℕ → ℕ → Cause → Stop
stop_as place tag w c = record { place = place; tag = tag; word = w; cause = c }

-- a. "Header whole and length not 'FFFF'": a header that is not whole has under 5 bytes. With under 2 there is no tag.
abbrev pub torn_stop : ℕ → ℕ → List ℕ → Stop
torn_stop w place bytes =
    cond (ltb (length bytes) 2) (stop_as place 0 w (cause.HeaderTorn (length bytes)))
    (stop_as place (word_at bytes 0) w (cond (ltb (length bytes) 5) (cause.HeaderTorn (length bytes)) cause.LengthFfff))

-- the first n of which the mandatory rows 1 to n are not all taken: row n is missing
unfoldable pub missing_row : ℕ → ℕ → ℕ → ℕ
missing_row zero rows n = n
missing_row (suc fuel) rows n = cond (missing_from rows 1 (take n row_table)) n (missing_row fuel rows (n + 1))

-- d. "A row may come when all mandatory rows before it are taken and neither it nor a later one is. Row 11 repeats,
-- its tags strictly rising."
abbrev pub undue_cause : ℕ → ℕ → ℕ → Cause
undue_cause rows last row =
    cond (missing_from rows 1 (take (row - 1) row_table)) (cause.RowMissing (missing_row 11 rows 1))
    (cond (eqb row 11) (cause.NotRising last) cause.RowPassed)

-- e. "SFI ss listed .., nn 0 for binary, else 1 to NumRec"
abbrev pub absent_cause : List Descriptor → ℕ → Cause
absent_cause files tag = cond (listed (tag / 256) files) cause.NoRecord cause.NoFile

-- h. "'3100': each descriptor by the file table's rules when its last byte comes": the one that begins at a place
unfoldable pub flaw_at : List Descriptor → List ℕ → ℕ → Flaw
flaw_at files bytes start = cond (ltb (length bytes) (start + descriptor_size)) Nothing
    (flaw_of (descriptor_of (part bytes start descriptor_size)) files)

-- the descriptors that stand have passed, so the next is the one that does not
unfoldable pub table_stop : List Descriptor → ℕ → ℕ → Head → ℕ → List ℕ → Stop
table_stop files count w h place bytes =
    let start = h.size + count * descriptor_size in
    stop_as (place + start) h.tag w (cause.Descriptor (count + 1) (flaw_at files bytes start))

-- "'2100': ..; capacity under 6 '6A84'": the word tells which
unfoldable pub value_stop : List Descriptor → ℕ → ℕ → ℕ → Head → ℕ → List ℕ → Stop
value_stop files count w row h place bytes =
    cond (eqb row 5) (table_stop files count w h place bytes)
    (stop_as place h.tag w (cond (eqb w 0x6A84) cause.Capacity cause.Startup))

-- f. "Length", and g. "others cut short"
unfoldable pub length_stop : List Descriptor → ℕ → ℕ → ℕ → ℕ → Head → ℕ → List ℕ → Stop
length_stop files count w row room h place bytes =
    let left = length bytes - h.size in
    cond (length_ok row room h.len)
    (cond ((row_at row).spans || leb h.len left) (value_stop files count w row h place bytes)
    (stop_as place h.tag w (cause.CutShort (h.len - left))))
    (stop_as place h.tag w (cause.Length h.len room))

abbrev pub room_stop : Verdict → List Descriptor → ℕ → ℕ → ℕ → Head → ℕ → List ℕ → Stop
room_stop (Passes room) files count w row h place bytes = length_stop files count w row room h place bytes
room_stop (Refuses x) files count w row h place bytes = stop_as place h.tag w (absent_cause files h.tag)

-- b and d
unfoldable pub head_stop : ℕ → ℕ → List Descriptor → ℕ → ℕ → Head → ℕ → List ℕ → Stop
head_stop rows last files count w h place bytes =
    let row = row_of h.tag in
    cond (is_query h.tag) (stop_as place h.tag w cause.Query)
    (cond (eqb row 0) (stop_as place h.tag w cause.UnknownTag)
    (cond (due rows last row h.tag) (room_stop (room_of files row h.tag) files count w row h place bytes)
    (stop_as place h.tag w (undue_cause rows last row))))

abbrev pub stop_by : Header → ℕ → ℕ → List Descriptor → ℕ → ℕ → ℕ → List ℕ → Stop
stop_by Torn rows last files count w place bytes = torn_stop w place bytes
stop_by (Whole h) rows last files count w place bytes = head_stop rows last files count w h place bytes

-- the grouping that bytes begin with, at a place of the order: rows, last tag and file table as it leaves them, and
-- the card's word. One that is refused takes no row and no tag; only '3100' enters files, and rules a to g of '3100'
-- read none
unfoldable pub stop_of : ℕ → ℕ → List Descriptor → ℕ → ℕ → ℕ → List ℕ → Stop
stop_of rows last files count w place bytes = stop_by (header_of bytes) rows last files count w place bytes
