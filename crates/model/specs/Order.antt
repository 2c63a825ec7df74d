-- "The order and its cutting": complete, the writer's records, the reader.
use Rattle.std.specs.Prelude.{ℕ, zero, suc, ◌+◌, ◌*◌, Bool, true, false, cond, not, List, [], ◌∷◌, ◌++◌, ltb, leb, length, take, drop}
use Rattle.lists.specs.Bytes.{part, zeros}
use Rattle.model.specs.declared.Head.{Head}
use Rattle.model.specs.declared.Header.{Header}
use Rattle.model.specs.declared.Header.TheVariants.{Torn, Whole}
use Rattle.model.specs.declared.Pulled.{Pulled}
use Rattle.model.specs.declared.Pulled.TheVariants.{Ended, Broken, Grouping}
use Rattle.model.specs.Stored.{chip_of, chip_form, fresh_loading, record_size, data_room, area_size, record_of}
use Rattle.model.specs.Rows.{row_at, row_of}
use Rattle.model.specs.Header.{header_of}
use Rattle.model.specs.Loads.{State, with_taken}
use Rattle.model.specs.Rules.{Result, went, asked, failed}
use Rattle.model.specs.Command.{walk, ready}

-- "9: order over 8,192 bytes"
abbrev pub order_limit : ℕ
order_limit = 8192

-- a fresh card's loading part after '9484'
abbrev pub challenged_state : State
challenged_state = record { load = with_taken 1 fresh_loading; area = zeros area_size }

abbrev pub finished : Result ℕ → Bool
finished (went n s) = ready s
finished (asked tag s) = false
finished (failed w s) = false

-- "Complete: after '9484', walked uncut by a to h on this chip, it passes, holds no '8185' or '84F2', and leaves no
-- mandatory row missing and no value open." Behind the three bytes of '9484' no grouping is at data byte 0, so rule b
-- refuses all three tags.
unfoldable pub complete : ℕ → List ℕ → Bool
complete capacity order = finished (walk (length order) capacity (3 + length order) 0x00 order challenged_state)

-- "the next unit ..: a whole unspannable grouping, a header, one spannable value byte"
abbrev pub spannable : ℕ → Bool
spannable tag = (row_at (row_of tag)).spans

unfoldable pub single : List ℕ → List (List ℕ)
single [] = []
single (b ∷ bs) = (b ∷ []) ∷ single bs

abbrev pub grouping_units : Head → List ℕ → List (List ℕ)
grouping_units h o = cond (spannable h.tag) (take h.size o ∷ single (part o h.size h.len))
    (take (h.size + h.len) o ∷ [])

-- the units of groupings end to end, as many turns as there are bytes; what is not whole, and stands in no complete
-- order, is one unit
abbrev pub units_by : (List ℕ → List (List ℕ)) → Header → List ℕ → List (List ℕ)
units_by later Torn o = o ∷ []
units_by later (Whole h) o = grouping_units h o ++ later (drop (h.size + h.len) o)

unfoldable pub units_in : ℕ → List ℕ → List (List ℕ)
units_in zero o = []
units_in (suc fuel) [] = []
units_in (suc fuel) (b ∷ bs) = units_by (λ o. units_in fuel o) (header_of (b ∷ bs)) (b ∷ bs)

-- "A command closes only when the next unit doesn't fit in 255": the commands' data, the first of which has cur already
unfoldable pub packed : List ℕ → List (List ℕ) → List (List ℕ)
packed cur [] = cur ∷ []
packed cur (u ∷ us) = elim (leb (length cur + length u) data_room)
    [ true ↦ packed (cur ++ u) us | false ↦ cur ∷ packed u us ]

unfoldable pub cut_of : List ℕ → List (List ℕ)
cut_of order = packed [] (units_in (length order) order)

-- "The writer's records are of kind 2"; "P1 is '80' on the last, else '00'; P2 '00'."
abbrev pub stored : ℕ → List ℕ → List ℕ
stored p1 d = record_of (record { kind = 2; p1 = p1; bytes = d })

unfoldable pub stored_all : List (List ℕ) → List (List ℕ)
stored_all [] = []
stored_all (d ∷ []) = stored 0x80 d ∷ []
stored_all (d ∷ e ∷ ds) = stored 0x00 d ∷ stored_all (e ∷ ds)

-- "first P1 '01', data 94 84 00; then the order's bytes, cut"
unfoldable pub records_for : List ℕ → List (List ℕ)
records_for order = stored 0x01 (0x94 ∷ 0x84 ∷ 0x00 ∷ []) ∷ stored_all (cut_of order)

pub record Writing : Type 0 where
  pub number : ℕ
  pub records : List (List ℕ)

abbrev pub no_writing : ℕ → Writing
no_writing n = record { number = n; records = [] }

-- "writer 7, 9, 10, 11"; room is that of the lent bytes for records
unfoldable pub write_of : List ℕ → List ℕ → ℕ → Writing
write_of chip order room =
    cond (not (chip_form chip)) (no_writing 7)
    (cond (ltb order_limit (length order)) (no_writing 9)
    (cond (not (complete (chip_of chip).capacity order)) (no_writing 10)
    (cond (ltb room (length (records_for order) * record_size)) (no_writing 11)
    (record { number = 0; records = records_for order }))))

-- "one grouping a pull: its tag and its value as a part, tags unjudged. At or past the end, or where a header (rule
-- a) or a value isn't whole, a pull gives nothing, says which of the two, and the place stays."
abbrev pub pulled_at : Header → ℕ → ℕ → Pulled
pulled_at Torn at n = Broken
pulled_at (Whole h) at n = cond (leb (at + h.size + h.len) n) (Grouping h.tag (at + h.size) h.len) Broken

unfoldable pub pull_of : List ℕ → ℕ → Pulled
pull_of order at = cond (leb (length order) at) Ended (pulled_at (header_of (drop at order)) at (length order))
