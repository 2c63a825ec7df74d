-- "Events": every kind in every state.
use Rattle.std.specs.Prelude.{ℕ, ◌+◌, ◌-◌, Bool, true, false, cond, not, ◌&&◌, ◌||◌, List, [], ◌∷◌, ◌++◌, eqb, ltb, leb, length, get_or, take, drop}
use Rattle.lists.specs.Bytes.{byte_at, part, zeros, padded, same}
use Rattle.model.specs.declared.Life.{Life}
use Rattle.model.specs.declared.Loading.{Loading}
use Rattle.model.specs.declared.Card.{Card}
use Rattle.model.specs.Stored.{Event, area_size, no_file}
use Rattle.model.specs.Loads.{with_dropped}
use Rattle.model.specs.Rules.{Result, went, asked, failed}
use Rattle.model.specs.Command.{command}

-- What an event gives: the word, the answer's bytes, the card and the file area after it.
pub record Reply : Type 0 where
  pub word : ℕ
  pub answer : List ℕ
  pub card : Card
  pub area : List ℕ

abbrev pub with_life : Life → Card → Card
with_life l c = record { chip = c.chip; life = l; loading = c.loading }

abbrev pub with_gp : ℕ → Bool → Card → Card
with_gp g sel c = with_life (record { gp = g; selected = sel; name = c.life.name; namelen = c.life.namelen }) c

abbrev pub with_loading : Loading → Card → Card
with_loading l c = record { chip = c.chip; life = c.life; loading = l }

-- "Locking sets '87', clears "selected" and drops an open value; all else stays."
abbrev pub locked : Card → Card
locked c = with_loading (with_dropped c.loading) (with_gp 0x87 false c)

-- a word with no answer bytes
abbrev pub says : ℕ → Card → List ℕ → Reply
says w c a = record { word = w; answer = []; card = c; area = a }

abbrev pub gives : ℕ → List ℕ → Card → List ℕ → Reply
gives w answer c a = record { word = w; answer = answer; card = c; area = a }

abbrev pub name_of : Card → List ℕ
name_of c = take c.life.namelen c.life.name

-- all bytes of the name, and no other
unfoldable pub is_name : Card → List ℕ → Bool
is_name c n = same n (name_of c)

abbrev pub absent : Card → Bool
absent c = eqb c.life.gp 0x00

-- "the name FCI, 6F n+2 84 n name"
unfoldable pub name_fci : Card → List ℕ
name_fci c = 0x6F ∷ (c.life.namelen + 2) ∷ 0x84 ∷ c.life.namelen ∷ name_of c

-- "Full FCI: 6F L 84 n name A5 16 BF 0C 13 C7 08 serial 53 07 startup, L = n + 26."
unfoldable pub full_fci : Card → List ℕ
full_fci c =
    0x6F ∷ (c.life.namelen + 26) ∷ 0x84 ∷ c.life.namelen ∷ name_of c
    ++ 0xA5 ∷ 0x16 ∷ 0xBF ∷ 0x0C ∷ 0x13 ∷ 0xC7 ∷ 0x08 ∷ c.loading.serial
    ++ 0x53 ∷ 0x07 ∷ c.loading.startup

-- INSTALL. "Data (GlobalPlatform): package name, module name, instance name, each after its length byte, then fixed
-- bytes."
pub record Names : Type 0 where
  pub package_len : ℕ
  pub module_len : ℕ
  pub instance_len : ℕ
  pub name : List ℕ
  pub tail : List ℕ

unfoldable pub names_in : List ℕ → Names
names_in d =
    let p = byte_at d 0 in
    let m = byte_at d (1 + p) in
    let i = byte_at d (2 + p + m) in
    record {
      package_len = p;
      module_len = m;
      instance_len = i;
      name = part d (3 + p + m) i;
      tail = drop
          (3 + p + m + i) d;
    }

abbrev pub name_length : ℕ → Bool
name_length n = leb 5 n && leb n 16

-- "For '04' and '0C' all lengths 5 to 16 and the tail is exactly 01 00 02 C9 00 00."
unfoldable pub install_form : Names → Bool
install_form n =
    name_length n.package_len && name_length n.module_len && name_length n.instance_len
    && same n.tail (0x01 ∷ 0x00 ∷ 0x02 ∷ 0xC9 ∷ 0x00 ∷ 0x00 ∷ [])

-- "For '08' the first two are empty, the third is 5 to 16 and the tail is 01 00 00 00."
unfoldable pub selectable_form : Names → Bool
selectable_form n =
    eqb n.package_len 0 && eqb n.module_len 0 && name_length n.instance_len
    && same n.tail (0x01 ∷ 0x00 ∷ 0x00 ∷ 0x00 ∷ [])

-- "'04' and '0C' on a present card '6985'; if absent, the instance name kept, '03' or '07', the area filled with
-- zeros, '9000'."
abbrev pub installed_as : ℕ → Names → Card → Card
installed_as p1 n c =
    with_life (record {
      gp = cond (eqb p1 0x04) 0x03 0x07;
      selected = c.life.selected;
      name = padded 16
          n.name;
      namelen = n.instance_len;
    }) c

unfoldable pub installing : ℕ → Names → Card → List ℕ → Reply
installing p1 n c a =
    cond (install_form n)
    (cond (absent c) (says 0x9000 (installed_as p1 n c) (zeros area_size)) (says 0x6985 c a))
    (says 0x6A80 c a)

-- "'08': absent or another name '6A88'; not '03' '6985'; then '07', '9000'."
unfoldable pub making_selectable : Names → Card → List ℕ → Reply
making_selectable n c a =
    cond (selectable_form n)
    (cond (absent c || not (is_name c n.name)) (says 0x6A88 c a)
    (cond (eqb c.life.gp 0x03) (says 0x9000 (with_gp 0x07 c.life.selected c) a) (says 0x6985 c a)))
    (says 0x6A80 c a)

-- "P1 '04', '08' or '0C', else '6A86'."
unfoldable pub install : ℕ → List ℕ → Card → List ℕ → Reply
install p1 d c a =
    cond (eqb p1 0x08) (making_selectable (names_in d) c a)
    (cond (eqb p1 0x04 || eqb p1 0x0C) (installing p1 (names_in d) c a) (says 0x6A86 c a))

-- the DF's status; with no descriptor it is not invalidated
unfoldable pub invalidated : Card → Bool
invalidated c = ltb 0 c.loading.count && eqb (get_or c.loading.files 0 no_file).status 1

-- "SELECT: state not '07' or another name '6A82'; else selected. 'CC': the name FCI .. and '9000'. 'A5': the full
-- FCI, '6283' where the DF is invalidated, else '9000'."
unfoldable pub select : List ℕ → Card → List ℕ → Reply
select d c a =
    cond (eqb c.life.gp 0x07 && is_name c d)
    (cond (eqb c.loading.running.internal 0xCC) (gives 0x9000 (name_fci c) (with_gp 0x07 true c) a)
    (gives (cond (invalidated c) 0x6283 0x9000) (full_fci c) (with_gp 0x07 true c) a))
    (says 0x6A82 c a)

-- "LOCK: absent '6A88', locked '6985', else top bit set, not selected."
unfoldable pub lock : Card → List ℕ → Reply
lock c a =
    cond (absent c) (says 0x6A88 c a)
    (cond (leb 0x80 c.life.gp) (says 0x6985 c a) (says 0x9000 (with_gp (c.life.gp + 0x80) false c) a))

-- "UNLOCK: absent '6A88', not locked '6985', else bit cleared."
unfoldable pub unlock : Card → List ℕ → Reply
unlock c a =
    cond (absent c) (says 0x6A88 c a)
    (cond (leb 0x80 c.life.gp) (says 0x9000 (with_gp (c.life.gp - 0x80) c.life.selected c) a)
    (says 0x6985 c a))

-- "DESELECT, RESET: not selected, '0000'."
unfoldable pub deselect : Card → List ℕ → Reply
deselect c a = says 0x0000 (with_gp c.life.gp false c) a

-- "Kind 4: selected '6D00', else '6985'."
unfoldable pub foreign : Card → List ℕ → Reply
foreign c a = says (cond c.life.selected 0x6D00 0x6985) c a

-- "They give reference and challenge; traceability; 9F 70 01 GP 9F DC 01 internal."
unfoldable pub answer_to : ℕ → Card → List ℕ
answer_to tag c =
    cond (eqb tag 0x9484) (c.chip.reference ++ c.chip.challenge)
    (cond (eqb tag 0x8185) c.chip.traceability
    (0x9F ∷ 0x70 ∷ 0x01 ∷ c.life.gp ∷ 0x9F ∷ 0xDC ∷ 0x01 ∷ c.loading.running.internal ∷ []))

-- "An error ends the command with no answer bytes. In '5A' it locks; in 'CC' and 'A5' nothing changes by it."
unfoldable pub errs : ℕ → Card → List ℕ → Reply
errs w c a = says w (cond (eqb c.loading.running.internal 0x5A) (locked c) c) a

-- "Without an error the word is '9000'."
abbrev pub commanded : Card → Result ℕ → Reply
commanded c (went n s) = says 0x9000 (with_loading s.load c) s.area
commanded c (asked tag s) = let c' = with_loading s.load c in gives 0x9000 (answer_to tag c') c' s.area
commanded c (failed w s) = errs w (with_loading s.load c) s.area

-- "STORE DATA: not selected '6985'; empty '6700', an error as below, so it locks in '5A'."
unfoldable pub store_data : ℕ → List ℕ → Card → List ℕ → Reply
store_data p1 d c a =
    cond c.life.selected
    (cond (eqb (length d) 0) (errs 0x6700 c a)
    (commanded c (command c.chip.capacity p1 d (record { load = c.loading; area = a }))))
    (says 0x6985 c a)

-- "In '5A', locked or just locked by such a kind: SELECT of the name gives the name FCI and '6283'; SELECT of another
-- name '6A82'; kinds 5 and 6 '0000'; all else '6985'."
unfoldable pub stuck : Event → Card → List ℕ → Reply
stuck e c a =
    cond (eqb e.kind 3) (cond (is_name c e.bytes) (gives 0x6283 (name_fci c) c a) (says 0x6A82 c a))
    (cond (eqb e.kind 5 || eqb e.kind 6) (says 0x0000 c a) (says 0x6985 c a))

-- "Internal '5A' at '07': each kind but 2 locks."
unfoldable pub personalizing : Event → Card → List ℕ → Reply
personalizing e c a =
    cond (eqb c.life.gp 0x07)
    (cond (eqb e.kind 2) (store_data e.p1 e.bytes c a) (stuck e (locked c) a))
    (stuck e c a)

-- "Otherwise, checks in the order written, and nothing changes but what is named"
unfoldable pub otherwise : Event → Card → List ℕ → Reply
otherwise e c a =
    cond (eqb e.kind 1) (install e.p1 e.bytes c a)
    (cond (eqb e.kind 2) (store_data e.p1 e.bytes c a)
    (cond (eqb e.kind 3) (select e.bytes c a)
    (cond (eqb e.kind 4) (foreign c a)
    (cond (eqb e.kind 7) (lock c a)
    (cond (eqb e.kind 8) (unlock c a)
    (deselect c a))))))

unfoldable pub event : Event → Card → List ℕ → Reply
event e c a = cond (eqb c.loading.running.internal 0x5A) (personalizing e c a) (otherwise e c a)
