-- What may be seen of a session: the value bytes of '3800' and '410n' groupings that pass all their checks are
-- hidden, and nothing else. The groupings are found by the same walk as the published definition's, along the
-- session's own run.
use Rattle.std.specs.Prelude.{ℕ, zero, suc, ◌-◌, Bool, true, cond, not, ◌&&◌, ◌||◌, List, [], ◌∷◌, ◌++◌, eqb, ltb, leb, length, get_or, take, drop, replicate}
use Rattle.lists.specs.Joined.{joined}
use Rattle.lists.specs.Bytes.{byte_at, part, zeros}
use Rattle.model.specs.declared.Open.{Open}
use Rattle.model.specs.declared.Open.TheVariants.{Shut, Table, Record}
use Rattle.model.specs.declared.Header.{Header}
use Rattle.model.specs.declared.Header.TheVariants.{Torn, Whole}
use Rattle.model.specs.declared.Card.{Card}
use Rattle.model.specs.Stored.{chip_size, chip_of, fresh_card, Event, event_in, padded_zero, record_size, area_size}
use Rattle.model.specs.Stored.{answer_room}
use Rattle.model.specs.Rows.{row_of}
use Rattle.model.specs.Header.{header_of}
use Rattle.model.specs.Loads.{State}
use Rattle.model.specs.Rules.{Result, went, asked, failed, fed, grouping}
use Rattle.model.specs.Sound.{sound}
use Rattle.model.specs.Session.{Turn, turn_of, play_of, records_in, events_in, run_of}

-- What a record's byte is: seen by all, or byte j of secret k. Secret k is row k + 6: '3800' is 0, '4101' to '4104'
-- are 1 to 4.
pub data Mark : Type 0 where
  seen : Mark
  secret : ℕ → ℕ → Mark

abbrev pub seens : ℕ → List Mark
seens n = replicate n seen

-- n bytes of secret k, from its byte j on
unfoldable pub secret_marks : ℕ → ℕ → ℕ → List Mark
secret_marks k j zero = []
secret_marks k j (suc n) = secret k j ∷ secret_marks k (suc j) n

-- rows 6 to 10: '3800' and '410n'
abbrev pub is_secret : ℕ → Bool
is_secret row = leb 6 row && leb row 10

abbrev pub value_marks : ℕ → ℕ → List Mark
value_marks row len = cond (is_secret row) (secret_marks (row - 6) 0 len) (seens len)

-- a grouping's bytes: the header's, then the value's
abbrev pub grouping_marks : Header → List Mark
grouping_marks Torn = []
grouping_marks (Whole h) = seens h.size ++ value_marks (row_of h.tag) h.len

-- Marks of bytes that a rule was given: where it passed, those of what it took, and then of what it left. Where it
-- did not, no byte from there on is a secret. A byte without a mark is seen.
abbrev pub marks_by : List Mark → (List ℕ → State → List Mark) → Result (List ℕ) → List Mark
marks_by front later (went left s) = front ++ later left s
marks_by front later (asked tag s) = []
marks_by front later (failed w s) = []

-- groupings end to end, as `walk` has them
unfoldable pub marks_walk : ℕ → ℕ → ℕ → ℕ → List ℕ → State → List Mark
marks_walk zero capacity n p1 bytes s = []
marks_walk (suc fuel) capacity n p1 [] s = []
marks_walk (suc fuel) capacity n p1 (b ∷ bs) s =
    marks_by (grouping_marks (header_of (b ∷ bs))) (λ left s'. marks_walk fuel capacity n p1 left s')
    (grouping capacity n p1 (b ∷ bs) s)

-- an open value's bytes come first
abbrev pub missing_in : Open → ℕ
missing_in Shut = 0
missing_in (Table held missing) = missing
missing_in (Record tag written missing) = missing

unfoldable pub marks_command : ℕ → ℕ → List ℕ → State → List Mark
marks_command capacity p1 bytes s =
    marks_by (seens (missing_in s.load.running.pending))
    (λ left s'. marks_walk (length left) capacity (length bytes) p1 left s') (fed bytes s)

-- a STORE DATA whose groupings are walked: the card is selected, and not locked in '5A'
abbrev pub walked : Event → Card → Bool
walked e c = eqb e.kind 2 && c.life.selected && (not (eqb c.loading.running.internal 0x5A) || eqb
    c.life.gp 0x07)

abbrev pub state_in : Card → List ℕ → State
state_in c a = record { load = c.loading; area = a }

-- a record's data, as far as it goes
abbrev pub marks_data : Card → List ℕ → List ℕ → List Mark
marks_data c a r = take (byte_at r 3) (marks_command c.chip.capacity (byte_at r 1) (part r 4 (byte_at r 3))
    (state_in c a))

-- a record's bytes: kind, P1, P2 and length, then the data's; none of a record that is refused or whose data is not
-- walked
unfoldable pub marks_in : Card → List ℕ → List ℕ → List Mark
marks_in c a r = cond (padded_zero r && walked (event_in r) c) (seens 4 ++ marks_data c a r) []

-- the mark of byte i; a byte without a mark is seen
abbrev pub mark_at : List Mark → ℕ → Mark
mark_at ms i = get_or ms i seen

-- the records of a session, each at its place in the run
unfoldable pub marks_from : Card → List ℕ → List (List ℕ) → List (List Mark)
marks_from c a [] = []
marks_from c a (r ∷ rs) = let t = turn_of c a r in marks_in c a r ∷ marks_from t.card t.area rs

-- Which of the secrets' bytes are hidden. A theorem for each choice says more than one for `every`: it tells the
-- bytes apart.
abbrev pub Hiding : Type 0
Hiding = ℕ → ℕ → Bool

abbrev pub every : Hiding
every k j = true

-- all but byte j of secret k
abbrev pub all_but : ℕ → ℕ → Hiding
all_but k j k' j' = not (eqb k k' && eqb j j')

abbrev pub shown_as : Hiding → Mark → ℕ → ℕ
shown_as z seen b = b
shown_as z (secret k j) b = cond (z k j) 0 b

-- bytes as they may be seen: zero where they are hidden
unfoldable pub view : Hiding → List Mark → List ℕ → List ℕ
view z [] bytes = bytes
view z (m ∷ ms) [] = []
view z (m ∷ ms) (b ∷ bs) = shown_as z m b ∷ view z ms bs

abbrev pub view_record : Hiding → Card → List ℕ → List ℕ → List ℕ
view_record z c a r = view z (marks_in c a r) r

-- How a session's records are taken: which bytes of one are marked, on a card and an area, and what it comes to.
pub record Way : Type 0 where
  pub marks : Card → List ℕ → List ℕ → List Mark
  pub turn : Card → List ℕ → List ℕ → Turn

-- as records of a session's call
abbrev pub in_session : Way
in_session = record { marks = marks_in; turn = turn_of }

-- or each by a call of its own, with so much room for the answer: of a record that number 1, 2, 6 or 3 refuses
-- nothing is hidden either
unfoldable pub playable : Card → List ℕ → ℕ → List ℕ → Bool
playable c a room r = eqb (length a) area_size && not (ltb room answer_room) && sound c && eqb (length r) record_size

unfoldable pub marks_played : Card → List ℕ → ℕ → List ℕ → List Mark
marks_played c a room r = cond (playable c a room r) (marks_in c a r) []

abbrev pub one_by_one : ℕ → Way
one_by_one room = record { marks = λ c a r. marks_played c a room r; turn = λ c a r. play_of c a room r }

-- the records of a session, each as it may be seen at its place in the run
unfoldable pub views_from : Hiding → Way → Card → List ℕ → List (List ℕ) → List (List ℕ)
views_from z way c a [] = []
views_from z way c a (r ∷ rs) =
    let t = way.turn c a r in view z (way.marks c a r) r ∷ views_from z way t.card t.area rs

-- the records that bytes hold; a torn last one is none
abbrev pub records_of : List ℕ → List (List ℕ)
records_of bytes = records_in (events_in bytes) bytes

-- a session's bytes: nothing is hidden of a session that is refused
unfoldable pub view_of : Hiding → Card → List ℕ → ℕ → List ℕ → List ℕ
view_of z c a room bytes =
    cond (eqb (run_of c a room bytes).number 0) (joined (views_from z in_session c a (records_of bytes))) bytes

-- the records that `replay` reads, each as it may be seen
abbrev pub replay_views : Hiding → List ℕ → List (List ℕ)
replay_views z input =
    views_from z (one_by_one answer_room) (fresh_card (chip_of (take chip_size input))) (zeros area_size)
    (records_of (drop chip_size input))
