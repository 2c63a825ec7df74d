-- What a command works on, the loading part of the card and the file area, and the single changes that it makes there.
use Rattle.std.specs.Prelude.{ℕ, ◌+◌, List, set, take}
use Rattle.lists.specs.Bytes.{zeros}
use Rattle.model.specs.declared.Descriptor.{Descriptor}
use Rattle.model.specs.declared.Secret.{Secret}
use Rattle.model.specs.declared.Open.{Open}
use Rattle.model.specs.declared.Open.TheVariants.{Shut, Table, Record}
use Rattle.model.specs.declared.Running.{Running}
use Rattle.model.specs.declared.Loading.{Loading}
use Rattle.model.specs.Rows.{with_row}

pub record State : Type 0 where
  pub load : Loading
  pub area : List ℕ

abbrev pub file_list : Loading → List Descriptor
file_list l = take l.count l.files

-- how far the loading is, with one of the four changed
abbrev pub running_in : ℕ → Running → Running
running_in i p = record { internal = i; rows = p.rows; last = p.last; pending = p.pending }

abbrev pub running_taken : ℕ → Running → Running
running_taken r p = record { internal = p.internal; rows = with_row p.rows r; last = p.last; pending = p.pending }

abbrev pub running_last : ℕ → Running → Running
running_last t p = record { internal = p.internal; rows = p.rows; last = t; pending = p.pending }

abbrev pub running_open : Open → Running → Running
running_open o p = record { internal = p.internal; rows = p.rows; last = p.last; pending = o }

-- the loading part that is as far, with these bytes held
abbrev pub with_progress : Running → List ℕ → Loading → Loading
with_progress p h l = record {
  running = p;
  held = h;
  files = l.files;
  count = l.count;
  serial = l.serial;
  startup = l.startup;
  counter = l.counter;
  secrets = l.secrets;
}

abbrev pub with_running : Running → Loading → Loading
with_running p l = with_progress p l.held l

abbrev pub with_internal : ℕ → Loading → Loading
with_internal i l = with_running (running_in i l.running) l

abbrev pub with_taken : ℕ → Loading → Loading
with_taken r l = with_running (running_taken r l.running) l

abbrev pub with_last : ℕ → Loading → Loading
with_last t l = with_running (running_last t l.running) l

abbrev pub with_open : Open → List ℕ → Loading → Loading
with_open o h l = with_progress (running_open o l.running) h l

-- nothing open, and no byte held
abbrev pub with_none_open : Loading → Loading
with_none_open l = with_open Shut (zeros 18) l

-- "drops an open value; all else stays": the held bytes go with the value, and with nothing open they stay
abbrev pub held_dropped : Open → List ℕ → List ℕ
held_dropped Shut h = h
held_dropped (Table held missing) h = zeros 18
held_dropped (Record tag written missing) h = zeros 18

abbrev pub with_dropped : Loading → Loading
with_dropped l = with_open Shut (held_dropped l.running.pending l.held) l

abbrev pub with_file : Descriptor → Loading → Loading
with_file d l = record {
  running = l.running;
  held = l.held;
  files = set l.files l.count d;
  count = l.count + 1;
  serial = l.serial;
  startup = l.startup;
  counter = l.counter;
  secrets = l.secrets;
}

-- with other facts and secrets kept
abbrev with_kept : List ℕ → List ℕ → ℕ → List Secret → Loading → Loading
with_kept serial startup counter secrets l = record {
  running = l.running;
  held = l.held;
  files = l.files;
  count = l.count;
  serial = serial;
  startup = startup;
  counter = counter;
  secrets = secrets;
}

abbrev pub with_serial : List ℕ → Loading → Loading
with_serial v l = with_kept v l.startup l.counter l.secrets l

abbrev pub with_startup : List ℕ → Loading → Loading
with_startup v l = with_kept l.serial v l.counter l.secrets l

abbrev pub with_counter : ℕ → Loading → Loading
with_counter n l = with_kept l.serial l.startup n l.secrets l

abbrev pub with_secret : ℕ → Secret → Loading → Loading
with_secret i x l = with_kept l.serial l.startup l.counter (set l.secrets i x) l

-- a change of the loading part alone
abbrev pub changed : (Loading → Loading) → State → State
changed f s = record { load = f s.load; area = s.area }
