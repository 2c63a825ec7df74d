-- "Groupings": rules a to h, in that order, and the value that runs on into the next command.
use Rattle.std.specs.Prelude.{ℕ, zero, suc, ◌+◌, ◌-◌, ◌/◌, ◌%◌, min, Bool, cond, not, ◌&&◌, ◌||◌, List, [], ◌∷◌, eqb, ltb, leb, length, take, drop, set}
use Rattle.lists.specs.Bytes.{byte_at, word, padded, zeros}
use Rattle.lists.specs.Over.{overwrite}
use Rattle.model.specs.declared.Descriptor.{Descriptor}
use Rattle.model.specs.declared.Open.{Open}
use Rattle.model.specs.declared.Open.TheVariants.{Shut, Table, Record}
use Rattle.model.specs.declared.Head.{Head}
use Rattle.model.specs.declared.Header.{Header}
use Rattle.model.specs.declared.Header.TheVariants.{Torn, Whole}
use Rattle.model.specs.declared.Spot.{Spot}
use Rattle.model.specs.declared.Spot.TheVariants.{Nowhere, At}
use Rattle.model.specs.declared.Verdict.{Verdict}
use Rattle.model.specs.declared.Verdict.TheVariants.{Passes, Refuses}
use Rattle.model.specs.Rows.{row_at, row_of, due, descriptor_size}
use Rattle.model.specs.Header.{header_of}
use Rattle.model.specs.Table.{descriptor_of, admit_of, spot_of}
use Rattle.model.specs.Loads.{State, file_list, with_internal, with_taken, with_last, with_open, with_none_open}
use Rattle.model.specs.Loads.{with_file, with_serial, with_startup, with_counter, with_secret, changed}

infixl 10 ◌>>=◌
infixl 10 ◌>>◌
-- What a rule comes to: the walk went on, with what the next rule wants to know; a query was asked; or it failed by a
-- word. Each has the state as it then is.
pub data Result (A : Type 0) : Type 0 where
  went : A → State → Result A
  asked : ℕ → State → Result A
  failed : ℕ → State → Result A

abbrev pub Rule : Type 0 → Type 0
Rule A = State → Result A

abbrev pub thence : {A B : Type 0} → Result A → (A → Rule B) → Result B
thence (went a s) k = k a s
thence (asked t s) k = asked t s
thence (failed w s) k = failed w s

abbrev pub ◌>>=◌ : {A B : Type 0} → Rule A → (A → Rule B) → Rule B
◌>>=◌ m k s = thence (m s) k

abbrev pub ◌>>◌ : {A B : Type 0} → Rule A → Rule B → Rule B
◌>>◌ m n s = thence (m s) (λ a. n)

-- a rule that only judges: it goes on with a number or fails, and changes nothing
abbrev pub judged : Verdict → Rule ℕ
judged (Passes n) s = went n s
judged (Refuses w) s = failed w s

abbrev pub unless : Bool → ℕ → Verdict
unless ok w = cond ok (Passes 0) (Refuses w)

-- a change that no rule stands against
abbrev pub does : (State → State) → Rule ℕ
does f s = went 0 (f s)

-- a. "Header whole and length not 'FFFF', else '6A80'."
abbrev pub whole_head : Header → Rule Head
whole_head Torn s = failed 0x6A80 s
whole_head (Whole h) s = went h s

unfoldable pub rule_a : List ℕ → Rule Head
rule_a bytes = whole_head (header_of bytes)

-- b. "'9484', '8185', '84F2': at data byte 0, empty and alone, else '6A80'; P1 bit 1 set, bit 8 clear, else '6A86';
-- '9484' only in 'CC' and once, else '6985'." A grouping at byte 0 has all n bytes of the command before it.
abbrev pub is_query : ℕ → Bool
is_query tag = eqb tag 0x9484 || eqb tag 0x8185 || eqb tag 0x84F2

abbrev pub alone_at_start : ℕ → List ℕ → Head → Bool
alone_at_start n bytes h = eqb (length bytes) n && eqb h.len 0 && eqb h.size n

abbrev pub bit1 : ℕ → Bool
bit1 p1 = eqb (p1 % 2) 1

abbrev pub bit8 : ℕ → Bool
bit8 p1 = leb 0x80 p1

unfoldable pub challenged : Rule ℕ
challenged s =
    cond (eqb s.load.running.internal 0xCC && due s.load.running.rows s.load.running.last 1 0x9484)
    (asked 0x9484 (changed (with_taken 1) s))
    (failed 0x6985 s)

unfoldable pub query : ℕ → ℕ → List ℕ → Head → Rule ℕ
query n p1 bytes h s =
    cond (alone_at_start n bytes h)
    (cond (bit1 p1 && not (bit8 p1)) (cond (eqb h.tag 0x9484) (challenged s) (asked h.tag s)) (failed 0x6A86 s))
    (failed 0x6A80 s)

unfoldable pub rule_b : ℕ → ℕ → List ℕ → Head → Rule ℕ
rule_b n p1 bytes h s = cond (is_query h.tag) (query n p1 bytes h s) (went 0 s)

-- c. "Any other: in 'A5' '6985'; in 'CC' the state becomes '5A' now, before any later check."
unfoldable pub rule_c : Rule ℕ
rule_c s = cond (eqb s.load.running.internal 0xA5) (failed 0x6985 s) (went 0 (changed (with_internal 0x5A) s))

-- d. "Unknown tag '6A88'. Row not due '6985'."
unfoldable pub due_row : ℕ → ℕ → ℕ → Verdict
due_row rows last tag =
    cond (eqb (row_of tag) 0) (Refuses 0x6A88)
    (cond (due rows last (row_of tag) tag) (Passes (row_of tag)) (Refuses 0x6985))

unfoldable pub rule_d : ℕ → Rule ℕ
rule_d tag s = judged (due_row s.load.running.rows s.load.running.last tag) s

-- e. "'ssnn': SFI ss listed as binary, linear, cyclic or counters, nn 0 for binary, else 1 to NumRec; else '6A88'."
-- It passes with the most bytes that the value may have.
abbrev pub tag_spot : List Descriptor → ℕ → Spot
tag_spot files tag = spot_of files (tag / 256) (tag % 256)

abbrev pub room_in : Spot → Verdict
room_in Nowhere = Refuses 0x6A88
room_in (At base size) = Passes size

unfoldable pub room_of : List Descriptor → ℕ → ℕ → Verdict
room_of files row tag = cond (eqb row 11) (room_in (tag_spot files tag)) (Passes (row_at row).most)

unfoldable pub rule_e : ℕ → ℕ → Rule ℕ
rule_e row tag s = judged (room_of (file_list s.load) row tag) s

-- f. "Length, else '6700': '2000' 8; '2100' 7; '2200' 3; '3100' a multiple of 18 from 18 to 558; '3800' and '410n' 1
-- to 64 (ours, opaque); 'ssnn' at most the record (binary: the file)."
abbrev pub length_ok : ℕ → ℕ → ℕ → Bool
length_ok row room len = leb (row_at row).least len && leb len room && eqb (len % (row_at row).step) 0

unfoldable pub rule_f : ℕ → ℕ → ℕ → Rule ℕ
rule_f row room len = judged (unless (length_ok row room len) 0x6700)

-- g. "Only '3100' and 'ssnn' may run into the next command; others cut short '6A80'."
unfoldable pub rule_g : ℕ → ℕ → ℕ → Rule ℕ
rule_g row len left = judged (unless ((row_at row).spans || leb len left) 0x6A80)

-- h. "Content." "'2100': first byte 6 to 55 and last two zero, else '6A80'; capacity under 6 '6A84'; the smaller of
-- first byte and capacity is kept."
abbrev pub startup_ok : List ℕ → Bool
startup_ok v = leb 6 (byte_at v 0) && leb (byte_at v 0) 55 && eqb (byte_at v 5) 0 && eqb (byte_at v 6) 0

unfoldable pub startup : ℕ → List ℕ → Rule ℕ
startup capacity v s =
    cond (startup_ok v)
    (cond (ltb capacity 6) (failed 0x6A84 s)
    (went 0 (changed (with_startup (min (byte_at v 0) capacity ∷ drop 1 v)) s)))
    (failed 0x6A80 s)

-- "'2200' any, MSB first."
abbrev pub counter_of : List ℕ → ℕ
counter_of v = word (word (byte_at v 0) (byte_at v 1)) (byte_at v 2)

-- "A passed grouping is kept: serial, startup, counter, or the secret's bytes with their length." Rows 6 to 10 are
-- the secrets.
unfoldable pub kept : ℕ → ℕ → List ℕ → Rule ℕ
kept capacity row v =
    cond (eqb row 2) (does (changed (with_serial v)))
    (cond (eqb row 3) (startup capacity v)
    (cond (eqb row 4) (does (changed (with_counter (counter_of v))))
    (does (changed (with_secret (row - 6) (record { bytes = padded 64 v; len = length v }))))))

-- "Rows 5 and 11 are taken when the value's last byte is (an empty one's at its header)": a value that misses so much
unfoldable pub table_done : ℕ → State → State
table_done zero s = changed (λ l. with_taken 5 (with_none_open l)) s
table_done (suc m) s = changed (with_open (Table 0 (suc m)) (zeros 18)) s

unfoldable pub record_done : ℕ → ℕ → ℕ → State → State
record_done tag written zero s = changed (λ l. with_last tag (with_taken 11 (with_open Shut l.held l))) s
record_done tag written (suc m) s = changed (λ l. with_open (Record tag written (suc m)) l.held l) s

-- "'3100': each descriptor by the file table's rules when its last byte comes."
abbrev pub described : Verdict → Descriptor → ℕ → Rule ℕ
described (Passes n) d missing s = went 0 (table_done missing (changed (with_file d) s))
described (Refuses w) d missing s = failed w s

unfoldable pub table_byte : ℕ → ℕ → ℕ → Rule ℕ
table_byte held missing b s =
    let bytes = set s.load.held held b in
    let d = descriptor_of bytes in
    let last = described (admit_of d (file_list s.load)) d missing s in
    cond (eqb (held + 1) descriptor_size) last (went 0 (changed (with_open (Table (held + 1) missing) bytes) s))

-- one byte of an open '3100', which misses that byte no more
abbrev pub in_table : Open → ℕ → Rule ℕ
in_table Shut b s = went 0 s
in_table (Table held missing) b s = table_byte held (missing - 1) b s
in_table (Record tag written missing) b s = went 0 s

unfoldable pub table_bytes : List ℕ → Rule ℕ
table_bytes [] = does (λ s. s)
table_bytes (b ∷ bs) = (λ s. in_table s.load.running.pending b s) >> table_bytes bs

-- "'ssnn' bytes are written as they come, from the record's start; all other bytes stay."
abbrev pub laid : Spot → ℕ → List ℕ → List ℕ → List ℕ
laid Nowhere written v area = area
laid (At base size) written v area = overwrite area (base + written) v

unfoldable pub record_bytes : ℕ → ℕ → ℕ → List ℕ → State → State
record_bytes tag written missing v s =
    record_done tag (written + length v) (missing - length v)
    (record { load = s.load; area = laid (tag_spot (file_list s.load) tag) written v s.area })

-- "An open value takes its bytes first": what it misses, as far as they go. It leaves the others.
abbrev pub feeding : Open → List ℕ → Rule (List ℕ)
feeding Shut bytes s = went bytes s
feeding (Table held missing) bytes s = thence (table_bytes (take missing bytes) s) (λ n. went (drop missing bytes))
feeding (Record tag written missing) bytes s = went (drop missing bytes)
    (record_bytes tag written missing (take missing bytes) s)

unfoldable pub fed : List ℕ → Rule (List ℕ)
fed bytes s = feeding s.load.running.pending bytes s

abbrev pub opened_as : ℕ → ℕ → ℕ → Open
opened_as row tag len = cond (eqb row 5) (Table 0 len) (Record tag 0 len)

unfoldable pub spanned : ℕ → Head → List ℕ → Rule (List ℕ)
spanned row h bytes s = fed bytes (changed (λ l. with_open (opened_as row h.tag h.len) l.held l) s)

unfoldable pub whole : ℕ → ℕ → Head → List ℕ → Rule (List ℕ)
whole capacity row h bytes = do
  kept capacity row (take h.len bytes)
  does (changed (with_taken row))
  went (drop h.len bytes)

-- the bytes behind the header; it leaves those behind the grouping
unfoldable pub rule_h : ℕ → ℕ → Head → List ℕ → Rule (List ℕ)
rule_h capacity row h bytes = cond (row_at row).spans (spanned row h bytes) (whole capacity row h bytes)

-- "Then each grouping, in this order": n is the number of the command's data bytes
unfoldable pub grouping : ℕ → ℕ → ℕ → List ℕ → Rule (List ℕ)
grouping capacity n p1 bytes = do
  h ← rule_a bytes
  rule_b n p1 bytes h
  rule_c
  row ← rule_d h.tag
  room ← rule_e row h.tag
  rule_f row room h.len
  rule_g row h.len (length bytes - h.size)
  rule_h capacity row h (drop h.size bytes)
