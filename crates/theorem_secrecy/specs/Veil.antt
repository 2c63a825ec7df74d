-- A card, and all that an event gives, without the hidden bytes of the kept secrets.
use Rattle.std.specs.Prelude.{ℕ, suc, Bool, cond, List, [], ◌∷◌}
use Rattle.model.specs.declared.Secret.{Secret}
use Rattle.model.specs.declared.Loading.{Loading}
use Rattle.model.specs.declared.Card.{Card}
use Rattle.model.specs.Loads.{State}
use Rattle.model.specs.Session.{Turn, Run, Session}
use Rattle.theorem_secrecy.specs.View.{Hiding}

-- bytes, of which the first is byte j: those that are hidden are zero
unfoldable pub blotted : (ℕ → Bool) → ℕ → List ℕ → List ℕ
blotted hides j [] = []
blotted hides j (b ∷ bs) = cond (hides j) 0 b ∷ blotted hides (suc j) bs

-- Every byte that a secret stores, those past its length too: they are zero in each state that a session reaches, and
-- a state that none reaches is veiled all the same. Lengths stay.
abbrev pub veil_secret : (ℕ → Bool) → Secret → Secret
veil_secret hides x = record { bytes = blotted hides 0 x.bytes; len = x.len }

-- secrets, of which the first is secret k
unfoldable pub veil_secrets : Hiding → ℕ → List Secret → List Secret
veil_secrets z k [] = []
veil_secrets z k (x ∷ xs) = veil_secret (z k) x ∷ veil_secrets z (suc k) xs

abbrev pub with_secrets : List Secret → Loading → Loading
with_secrets xs l = record {
  running = l.running;
  held = l.held;
  files = l.files;
  count = l.count;
  serial = l.serial;
  startup = l.startup;
  counter = l.counter;
  secrets = xs;
}

abbrev pub veil_loading : Hiding → Loading → Loading
veil_loading z l = with_secrets (veil_secrets z 0 l.secrets) l

abbrev pub veil : Hiding → Card → Card
veil z c = record { chip = c.chip; life = c.life; loading = veil_loading z c.loading }

abbrev pub veil_state : Hiding → State → State
veil_state z s = record { load = veil_loading z s.load; area = s.area }

abbrev pub veil_turn : Hiding → Turn → Turn
veil_turn z t = record {
  number = t.number;
  word = t.word;
  answer = t.answer;
  card = veil z
      t.card;
  area = t.area;
}

abbrev pub veil_run : Hiding → Run → Run
veil_run z w = record { words = w.words; card = veil z w.card; area = w.area }

abbrev pub veil_session : Hiding → Session → Session
veil_session z s = record { number = s.number; run = veil_run z s.run }
