-- The working walk: a command's data byte by byte, so that it can be split at any byte. No contract cites it;
-- proofs/Walks says that it is the published one.
use Rattle.std.specs.Prelude.{ℕ, zero, suc, ◌+◌, ◌-◌, ◌%◌, ◌<◌, ◌≡◌, Bool, false, cond, List, [], ◌∷◌, ◌++◌, leb, length}
use Rattle.model.specs.declared.Open.{Open}
use Rattle.model.specs.declared.Open.TheVariants.{Shut, Table, Record}
use Rattle.model.specs.declared.Head.{Head}
use Rattle.model.specs.declared.Header.{Header}
use Rattle.model.specs.declared.Header.TheVariants.{Torn, Whole}
use Rattle.model.specs.Rows.{row_at}
use Rattle.model.specs.Header.{header_of}
use Rattle.model.specs.Loads.{State, with_taken, with_open, changed}
use Rattle.model.specs.Rules.{went, failed, Rule, thence, ◌>>=◌, ◌>>◌, does, is_query, rule_c, rule_d, rule_e, rule_f}
use Rattle.model.specs.Rules.{kept, record_done, table_byte, record_bytes, opened_as}

-- Where a command's walk stands: between groupings, or in a value that may run on (the state's open value says
-- which); in a header that is not yet whole; in a value that may not, with its row, how many bytes come after the
-- next one, and the bytes so far.
pub data Part : Type 0 where
  between : Part
  head : List ℕ → Part
  value : ℕ → ℕ → List ℕ → Part

-- a byte of an open value, or else a header's first
abbrev pub open_byte : Open → ℕ → Rule Part
open_byte Shut b s = went (head (b ∷ [])) s
open_byte (Table held missing) b s = thence (table_byte held (missing - 1) b s) (λ n. went between)
open_byte (Record tag written missing) b s = went between (record_bytes tag written missing (b ∷ []) s)

-- a value that may not run on is there: rule h, and its row is taken
unfoldable pub ending : ℕ → ℕ → List ℕ → Rule Part
ending capacity row v = do
  kept capacity row v
  does (changed (with_taken row))
  went between

-- a value that may run on begins; an empty one is taken at its header
unfoldable pub opened : ℕ → ℕ → ℕ → State → State
opened row tag zero s = record_done tag 0 zero s
opened row tag (suc m) s = changed (λ l. with_open (opened_as row tag (suc m)) l.held l) s

-- a value that may not run on begins
unfoldable pub awaited : ℕ → ℕ → ℕ → Rule Part
awaited capacity row zero s = ending capacity row [] s
awaited capacity row (suc n) s = went (value row n []) s

unfoldable pub started : ℕ → ℕ → Head → Rule Part
started capacity row h s = cond (row_at row).spans (went between (opened row h.tag h.len s))
    (awaited capacity row h.len s)

-- rule b behind data byte 0, where no query may stand
unfoldable pub behind : ℕ → Rule ℕ
behind tag s = cond (is_query tag) (failed 0x6A80 s) (went 0 s)

-- rules d to f, and the value's beginning
abbrev pub judged_head : ℕ → Head → Rule Part
judged_head capacity h = do
  row ← rule_d h.tag
  room ← rule_e row h.tag
  rule_f row room h.len
  started capacity row h

-- a whole header: rules b to f
unfoldable pub begun : ℕ → Head → Rule Part
begun capacity h = do
  behind h.tag
  rule_c
  judged_head capacity h

-- five bytes that are no header never become one
abbrev pub on_head : ℕ → Header → List ℕ → Rule Part
on_head capacity Torn u s = cond (leb 5 (length u)) (failed 0x6A80 s) (went (head u) s)
on_head capacity (Whole h) u s = begun capacity h s

unfoldable pub step : ℕ → Part → ℕ → Rule Part
step capacity between b s = open_byte s.load.running.pending b s
step capacity (head bs) b s = on_head capacity (header_of (bs ++ (b ∷ []))) (bs ++ (b ∷ [])) s
step capacity (value row zero bs) b s = ending capacity row (bs ++ (b ∷ [])) s
step capacity (value row (suc n) bs) b s = went (value row n (bs ++ (b ∷ []))) s

unfoldable pub run : ℕ → List ℕ → Part → Rule Part
run capacity [] p s = went p s
run capacity (b ∷ bs) p s = thence (step capacity p b s) (λ p'. run capacity bs p')

-- what the end of the bytes comes to: a header or a value that may not run on is cut short (rules a and g), else the
-- walk goes on
abbrev pub at_end : {B : Type 0} → Rule B → Part → Rule B
at_end k between s = k s
at_end k (head bs) s = failed 0x6A80 s
at_end k (value row n bs) s = failed 0x6A80 s

-- a command asks something (rule b at data byte 0): nothing is open, and its first header has a query's tag
abbrev pub head_asks : Header → Bool
head_asks Torn = false
head_asks (Whole h) = is_query h.tag

abbrev pub asks : Open → List ℕ → Bool
asks Shut bytes = head_asks (header_of bytes)
asks (Table held missing) bytes = false
asks (Record tag written missing) bytes = false

-- `Misses o n`: the open value `o` wants n bytes more, and the end of '3100' falls on the end of a descriptor; a
-- sound card's does
pub data Misses : Open → ℕ → Type 0 where
  shut : Misses Shut 0
  table : {held n : ℕ} → held < 18 → (held + suc n) % 18 ≡ 0 → Misses (Table held (suc n)) (suc n)
  stored : {tag written n : ℕ} → Misses (Record tag written (suc n)) (suc n)
