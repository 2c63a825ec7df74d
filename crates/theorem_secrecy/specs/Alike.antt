-- Two cards, events and sessions that are alike in all but the hidden bytes of the kept secrets.
use Rattle.std.specs.Prelude.{ℕ, zero, suc, ◌≡◌, Bool, true, false, not, List, [], ◌∷◌, length, get_or, take}
use Rattle.lists.specs.Bytes.{byte_at}
use Rattle.model.specs.declared.Secret.{Secret}
use Rattle.model.specs.declared.Card.{Card}
use Rattle.model.specs.Stored.{no_secret}
use Rattle.model.specs.Session.{Turn, refused_by, Run, run_from, Session}
use Rattle.theorem_secrecy.specs.View.{Mark, seen, secret, mark_at, Hiding, Way, in_session}

abbrev pub secret_of : Card → ℕ → Secret
secret_of c k = get_or c.loading.secrets k no_secret

-- equal in everything but the secrets' hidden bytes; the secrets are as many, and each is as long
pub record AlikeCards (z : Hiding) (c d : Card) : Type 0 where
  pub chip : c.chip ≡ d.chip
  pub life : c.life ≡ d.life
  pub internal : c.loading.running.internal ≡ d.loading.running.internal
  pub rows : c.loading.running.rows ≡ d.loading.running.rows
  pub last : c.loading.running.last ≡ d.loading.running.last
  pub pending : c.loading.running.pending ≡ d.loading.running.pending
  pub held : c.loading.held ≡ d.loading.held
  pub files : c.loading.files ≡ d.loading.files
  pub count : c.loading.count ≡ d.loading.count
  pub serial : c.loading.serial ≡ d.loading.serial
  pub startup : c.loading.startup ≡ d.loading.startup
  pub counter : c.loading.counter ≡ d.loading.counter
  pub secrets : length c.loading.secrets ≡ length d.loading.secrets
  pub lengths : (k : ℕ) → (secret_of c k).len ≡ (secret_of d k).len
  pub rooms : (k : ℕ) → length (secret_of c k).bytes ≡ length (secret_of d k).bytes
  pub bytes : (k j : ℕ) → z k j ≡ false → byte_at (secret_of c k).bytes j ≡ byte_at (secret_of d k).bytes j

-- one event of each: the number, the word, the answer, each file byte, and the card
pub record AlikeTurns (z : Hiding) (t u : Turn) : Type 0 where
  pub number : t.number ≡ u.number
  pub word : t.word ≡ u.word
  pub answer : t.answer ≡ u.answer
  pub area : t.area ≡ u.area
  pub card : AlikeCards z t.card u.card

-- what event k of a session comes to, from 0; past the last, nothing
unfoldable pub turn_at : Way → Card → List ℕ → List (List ℕ) → ℕ → Turn
turn_at way c a [] k = refused_by 0 c a
turn_at way c a (r ∷ rs) zero = way.turn c a r
turn_at way c a (r ∷ rs) (suc k) = let t = way.turn c a r in turn_at way t.card t.area rs k

-- the two sessions so far: the words, each file byte, and the card
pub record AlikeRuns (z : Hiding) (w u : Run) : Type 0 where
  pub words : w.words ≡ u.words
  pub area : w.area ≡ u.area
  pub card : AlikeCards z w.card u.card

-- a session's call: the number, and the run
pub record AlikeCalls (z : Hiding) (s t : Session) : Type 0 where
  pub number : s.number ≡ t.number
  pub run : AlikeRuns z s.run t.run

abbrev pub start : Card → List ℕ → Run
start c a = record { words = []; card = c; area = a }

-- two sessions, from cards c and d and the file area a: as many events, each alike, and alike after the first k, for
-- each k
pub record AlikeSessions (z : Hiding) (c d : Card) (a : List ℕ) (x y : List (List ℕ)) : Type 0 where
  pub count : length x ≡ length y
  pub events : (k : ℕ) → AlikeTurns z (turn_at in_session c a x k) (turn_at in_session d a y k)
  pub runs : (k : ℕ) → AlikeRuns z (run_from (start c a) (take k x)) (run_from (start d a) (take k y))

-- a byte with this mark may be seen
abbrev pub shows : Hiding → Mark → Bool
shows z seen = true
shows z (secret k j) = not (z k j)

-- a record and another that is like it but for hidden bytes: as long, and equal in each byte that may be seen
pub record ButForSecrets (z : Hiding) (ms : List Mark) (r q : List ℕ) : Type 0 where
  pub size : length r ≡ length q
  pub bytes : (i : ℕ) → shows z (mark_at ms i) ≡ true → byte_at r i ≡ byte_at q i

-- A session and another that is like it but for value bytes inside '3800' and '410n' groupings that pass all their
-- checks: those that the first's own run marks. Of the other's run nothing is asked.
unfoldable pub Differs : Hiding → Way → Card → List ℕ → List (List ℕ) → List (List ℕ) → Type 0
Differs z way c a [] [] = Unit {0}
Differs z way c a [] (q ∷ qs) = ⊥
Differs z way c a (r ∷ rs) [] = ⊥
Differs z way c a (r ∷ rs) (q ∷ qs) = ButForSecrets z (way.marks c a r) r q
    × Differs z way (way.turn c a r).card (way.turn c a r).area rs qs
