-- Witnesses, computed: a passed secret's bytes are hidden, and only they; and for each check that a secret's grouping
-- can fail, a record with a secret's bytes that the view leaves as they are.
use Prim.Native.Nat.{ℕ}
use mathlib.Core.Bool.{Bool, true, false, ◌&&◌}
use mathlib.Core.List.{List, [], ◌∷◌, ◌++◌}
use lib.Dec.{T}
use lib.ListN.{replicate}
use Rattle.lists.specs.Bytes.{same, zeros}
use Rattle.model.specs.declared.Life.{Life}
use Rattle.model.specs.Stored.{Event, record_of, area_size}
use Rattle.model.specs.Events.{with_life}
use Rattle.model.proofs.Computed.{computed}
use Rattle.model.proofs.Scenes.{Bytes, blank_card, event, install, select, command, serial, startup, counter, key}
use Rattle.model.proofs.Scenes.{table, df, linear, begun, asked, loaded, turns, end_of}
use Rattle.theorem_secrecy.specs.View.{every, secret_marks, marks_walk, marks_command, marks_in, view, view_record}
use Rattle.theorem_secrecy.specs.View.{in_session, views_from}
use Rattle.theorem_secrecy.specs.Alike.{secret_of}

-- a record that comes after a session of a fresh card of capacity 10, of which the card's life cycle is then made
-- another, and what may be seen of the record
pub record Case : Type 0 where
  pub before : List Event
  pub forced : Life → Life
  pub given : Bytes
  pub shown : Bytes

-- the view hides bytes of a command's data, so that it looks like that
abbrev hidden : List Event → Bytes → Bytes → Case
hidden es d v = record {
  before = es;
  forced = λ l. l;
  given = record_of (command 0x00 d);
  shown = record_of
      (command 0x00 v);
}

-- the view leaves the record as it is
abbrev left : List Event → Bytes → Case
left es r = record { before = es; forced = λ l. l; given = r; shown = r }

-- so too where no session comes to: personalizing, but not selected; or selected, but locked
abbrev left_at : ℕ → Bool → List Event → Bytes → Case
left_at g sel es r = record {
  before = es;
  forced = λ l. record
      { gp = g; selected = sel; name = l.name; namelen = l.namelen };
  given = r;
  shown = r;
}

-- '3800' or '410n' with its value hidden
abbrev blank : ℕ → ℕ → ℕ → Bytes
blank hi lo n = hi ∷ lo ∷ n ∷ zeros n

-- all before '3800', in a command of its own; and with '3800'
abbrev pub to_secrets : Bytes
to_secrets = serial ++ startup 10 ++ table (df 0 ++ linear)

abbrev due38 : List Event
due38 = asked (command 0x00 to_secrets ∷ [])

abbrev due41 : List Event
due41 = asked (command 0x00 (to_secrets ++ key 0x38 0x00 16) ∷ [])

abbrev secret_data : Bytes
secret_data = key 0x41 0x01 5

abbrev stores : Bytes → Bytes
stores d = record_of (command 0x00 d)

unfoldable pub cases : List Case
cases =
    -- hidden: the value bytes, and neither the header nor a neighbour
    hidden due38 (key 0x38 0x00 16) (blank 0x38 0x00 16)
    ∷ hidden due41 (key 0x41 0x01 1) (blank 0x41 0x01 1)
    ∷ hidden due41 (key 0x41 0x01 64) (blank 0x41 0x01 64)
    ∷ hidden due41 (key 0x41 0x01 5 ++ key 0x41 0x02 6) (blank 0x41 0x01 5 ++ blank 0x41 0x02 6)
    -- the long form of the length
    ∷ hidden due41 (0x41 ∷ 0x01 ∷ 0xFF ∷ 0x00 ∷ 0x03 ∷ 0x5C ∷ 0x5C ∷ 0x5C ∷ [])
    (0x41 ∷ 0x01 ∷ 0xFF ∷ 0x00 ∷ 0x03 ∷ 0 ∷ 0 ∷ 0 ∷ [])
    -- all in one command, with the optional '4104', and a record's bytes behind them
    ∷ hidden (asked [])
    (to_secrets ++ key 0x38 0x00 5 ++ key 0x41 0x01 5 ++ key 0x41 0x02 5 ++ key 0x41 0x03 5 ++ key 0x41 0x04 5 ++ 0x08
    ∷ 0x01 ∷ 2 ∷ 0x5C ∷ 0x5C ∷ [])
    (to_secrets ++ blank 0x38 0x00 5 ++ blank 0x41 0x01 5 ++ blank 0x41 0x02 5 ++ blank 0x41 0x03 5 ++ blank 0x41 0x04
    5 ++ 0x08 ∷ 0x01 ∷ 2 ∷ 0x5C ∷ 0x5C ∷ [])
    -- behind the rest of a table that the command before began
    ∷ hidden (asked (command 0x00 (serial ++ startup 10 ++ 0x31 ∷ 0x00 ∷ 36 ∷ df 0) ∷ [])) (linear ++ key 0x38 0x00 5)
    (linear ++ blank 0x38 0x00 5)
    -- passed, and kept, though a later grouping fails: row taken, length 65, cut short, unknown tag, torn header
    ∷ hidden due41 (key 0x41 0x01 5 ++ key 0x41 0x01 5) (blank 0x41 0x01 5 ++ key 0x41 0x01 5)
    ∷ hidden due41 (key 0x41 0x01 5 ++ key 0x41 0x02 65) (blank 0x41 0x01 5 ++ key 0x41 0x02 65)
    ∷ hidden due41 (key 0x41 0x01 5 ++ 0x41 ∷ 0x02 ∷ 5 ∷ 0x5C ∷ []) (blank 0x41 0x01 5 ++ 0x41 ∷ 0x02 ∷ 5 ∷ 0x5C ∷ [])
    ∷ hidden due41 (key 0x41 0x01 5 ++ key 0x41 0x05 5) (blank 0x41 0x01 5 ++ key 0x41 0x05 5)
    ∷ hidden due41 (key 0x41 0x01 5 ++ 0x41 ∷ 0x02 ∷ []) (blank 0x41 0x01 5 ++ 0x41 ∷ 0x02 ∷ [])
    -- left: the row is not due, before its time and after it
    ∷ left due38 (stores secret_data)
    ∷ left due41 (stores (key 0x38 0x00 5))
    ∷ left (asked []) (stores (key 0x38 0x00 5))
    -- left: the length is 0, then a grouping that would pass; the length is 65
    ∷ left due41 (stores (key 0x41 0x01 0 ++ key 0x41 0x02 5))
    ∷ left due41 (stores (key 0x41 0x01 65))
    -- left: cut short; a torn header; an unknown tag; an earlier error in the command
    ∷ left due41 (stores (0x41 ∷ 0x01 ∷ 5 ∷ replicate 4 0x5C))
    ∷ left due41 (stores (0x41 ∷ 0x01 ∷ 0xFF ∷ 0x00 ∷ []))
    ∷ left due41 (stores (key 0x41 0x05 5))
    ∷ left due41 (stores (counter ++ secret_data))
    -- left: in 'A5'
    ∷ left (asked (command 0x80 (loaded (df 0 ++ linear)) ∷ [])) (stores secret_data)
    -- left: locked, in '5A' and in 'CC'; not selected
    ∷ left (asked (command 0x00 (to_secrets ++ key 0x38 0x00 16) ∷ select ∷ [])) (stores secret_data)
    ∷ left (begun (event 7 0 [] ∷ [])) (stores (key 0x38 0x00 5))
    ∷ left (install 0x0C ∷ []) (stores (key 0x38 0x00 5))
    ∷ left_at 0x07 false due41 (stores secret_data)
    ∷ left_at 0x87 true due41 (stores secret_data)
    -- left: refused by 4 and by 5; another kind
    ∷ left due41 (9 ∷ 0 ∷ 0 ∷ 8 ∷ secret_data ++ zeros 248)
    ∷ left due41 (2 ∷ 0 ∷ 0 ∷ 8 ∷ secret_data ++ zeros 247 ++ 1 ∷ [])
    ∷ left due41 (2 ∷ 0 ∷ 0 ∷ 7 ∷ secret_data ++ zeros 248)
    ∷ left due41 (record_of (event 4 0 secret_data))
    -- left: the bytes of an open value, that only look like a secret's grouping
    ∷ left (asked (command 0x00 (loaded (df 0 ++ linear)) ∷ command 0x00 (0x08 ∷ 0x01 ∷ 29 ∷ []) ∷ []))
    (stores (key 0x41 0x04 5))
    ∷ []

unfoldable pub holds : Case → Bool
holds x =
    let t = end_of (turns 10 x.before) in
    same (view_record every (with_life (x.forced t.card.life) t.card) t.area x.given) x.shown

unfoldable pub all_hold : List Case → Bool
all_hold [] = true
all_hold (x ∷ xs) = holds x && all_hold xs

pub cases_hold : T (all_hold cases)
unfolding computed cases holds all_hold secret_marks marks_walk marks_command marks_in view
cases_hold = tt

-- two loadings that differ in every key byte: they look alike, and the cards keep what each was given, so that the
-- theorems speak of something
abbrev pub key_of : ℕ → ℕ → ℕ → Bytes
key_of hi lo v = hi ∷ lo ∷ 16 ∷ replicate 16 v

abbrev pub loading : ℕ → List Event
loading v =
    asked (command 0x80 (to_secrets ++ key_of 0x38 0x00 v ++ key_of 0x41 0x01 v ++ key_of 0x41 0x02 v ++ key_of 0x41 0x03
    v) ∷ select ∷ [])

unfoldable pub records : List Event → List Bytes
records [] = []
records (e ∷ es) = record_of e ∷ records es

unfoldable pub same_all : List Bytes → List Bytes → Bool
same_all [] [] = true
same_all [] (y ∷ ys) = false
same_all (x ∷ xs) [] = false
same_all (x ∷ xs) (y ∷ ys) = same x y && same_all xs ys

abbrev views_of : ℕ → List Bytes
views_of v = views_from every in_session (blank_card 10) (zeros area_size) (records (loading v))

abbrev kept_key : ℕ → Bytes
kept_key v = (secret_of (end_of (turns 10 (loading v))).card 3).bytes

pub look_alike : T (same_all (views_of 0x5C) (views_of 0xC5) && same (kept_key 0x5C)
    (replicate 16 0x5C ++ zeros 48) && same (kept_key 0xC5) (replicate 16 0xC5 ++ zeros 48))
unfolding computed records same_all secret_marks marks_walk marks_command marks_in view views_from
look_alike = tt
