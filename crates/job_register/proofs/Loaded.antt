-- A JOB'S REGISTER: what `replay` prints of the session that `cut` writes; and it is whole, and of a loaded card.
use Prim.Native.Nat.{ℕ, zero, suc, ◌+◌, ◌*◌, ◌-◌, ◌%◌, ◌≤◌}
use mathlib.Core.Path.{◌≡◌, refl, ap, sym, ◌∙◌, subst}
use mathlib.Core.Bool.{true, not}
use mathlib.Core.List.{List, [], ◌∷◌, ◌++◌}
use native.Mathlib.Nat.{zero-add}
use native.Mathlib.Omega.{arith}
use lib.Dec.{eqb, ltb}
use lib.ListN.{length, take, drop, replicate}
use lib.Seq.{take_at, drop_at}
use borrow.Author.Tests.{eq-eqb}
use Rattle.lists.specs.Bytes.{zeros, part, byte_at}
use Rattle.lists.specs.Choice.{by_cond}
use Rattle.model.specs.declared.Card.{Card}
use Rattle.model.specs.Stored.{area_size, record_size, chip_size, chip_form}
use Rattle.model.specs.Session.{turn_of, Run, after, run_from, Session, run_of, fresh_of, records_in, events_in}
use Rattle.model.specs.Sound.{sound}
use Rattle.model.specs.Order.{Writing}
use Rattle.model.specs.Lines.{line_of, end_of, replay_of}
use Rattle.theorem_cutting.specs.Job.{job_with, session_of, Taken}
use Rattle.theorem_cutting.proofs.Fronts.{job_front_lem}
use Rattle.theorem_cutting.proofs.Writes.{write_only, write_taken}
use Rattle.card_fresh.proofs.Chips.{form_size}
use Rattle.event_replies.proofs.Records.{records_more}
use Rattle.register_entries.specs.Entries.{Register, begun, counted, entry, entries, entered_of, printed}
use Rattle.register_entries.proofs.Entries.{entries_append, lines_sized}
use Rattle.register_entries.proofs.Whole.{replay_prints, replay_ends}
use Rattle.job_session.specs.Laid.{front_size, session_writing}
use Rattle.job_session.proofs.Sessions.{session_length, session_few}
use Rattle.register_whole.specs.Whole.{line_size, most_events, whole_by, whole_register, events_whole}
use Rattle.register_whole.proofs.Counts.{whole_so, whole_events}
use Rattle.register_whole.proofs.Printed.{loaded_line, printed_whole}
use Rattle.job_register.specs.Jobs.{record_room, job_writing, events_of, register_of, entry_of, text_of}
use Rattle.model.proofs.Laws.{length_records}

-- a session's run, begun where a register stands
abbrev run_as : List ℕ → Register → Run
run_as words g = record { words = words; card = g.card; area = g.area }

-- run and register take the same turns
run_card : (rs : List (List ℕ)) (words : List ℕ) (g : Register)
    → (entries g rs).card ≡ (run_from (run_as words g) rs).card
unfolding entries entry run_from after
run_card [] words g = refl
run_card (r ∷ rs) words g = run_card rs (words ++ ((turn_of g.card g.area r).word ∷ [])) (entry g r)

-- the run's last word is that of the register's last event
run_last : (rs : List (List ℕ)) (r words : List ℕ) (g : Register)
    → (run_from (run_as words g) (rs ++ (r ∷ []))).words
    ≡ (run_from (run_as words g) rs).words ++ ((turn_of (entries g rs).card (entries g rs).area r).word ∷ [])
unfolding entries entry run_from after
run_last [] r words g = refl
run_last (x ∷ rs) r words g = run_last rs r (words ++ ((turn_of g.card g.area x).word ∷ [])) (entry g x)

last_of : (n v x : ℕ) (xs : List ℕ) → xs ++ (x ∷ []) ≡ replicate n v → x ≡ v
last_of zero v x [] e = let z : ◌≡◌ {A = ℕ} 0 1 = cc in absurd (omega arith)
last_of zero v x (y ∷ xs) e = let z : ◌≡◌ {A = ℕ} 0 1 = cc in absurd (omega arith)
last_of (suc n) v x [] e = cc
last_of (suc n) v x (y ∷ xs) e = last_of n v x xs (cc)

-- a session that is not refused is its records' run
abbrev Ran : Run → Session → Type 0
Ran w x = x.number ≡ 0 → x.run ≡ w

run_so : (c : Card) (a : List ℕ) (room : ℕ) (bytes : List ℕ)
    → Ran (run_from (record { words = []; card = c; area = a }) (records_in (events_in bytes) bytes))
    (run_of c a room bytes)
unfolding run_of
run_so c a room bytes =
    let w = run_from (record { words = []; card = c; area = a }) (records_in (events_in bytes) bytes) in
    by_cond (Ran w) (not (eqb (length a) area_size)) (λ e z. absurd (omega arith))
    (λ e. by_cond (Ran w) (not (sound c)) (λ f z. absurd (omega arith))
    (λ f. by_cond (Ran w) (not (eqb (length bytes % record_size) 0)) (λ g z. absurd (omega arith))
    (λ g. by_cond (Ran w) (ltb room (events_in bytes)) (λ h z. absurd (omega arith)) (λ h z. refl))))

line_loaded : (n kind number word : ℕ) (c : Card) → word ≡ 0x9000 → c.life.gp ≡ 0x07
    → c.loading.running.internal ≡ 0xA5
    → line_of n kind number word c ≡ loaded_line n kind number c.loading.running.rows
line_loaded n kind number word c e f g = rw (e, f, g)

-- the record behind k others
abbrev behind_all : ℕ → List ℕ → List ℕ
behind_all k b = part b (k * record_size) record_size

-- k + 1 events whose words are all '9000', of a card that is loaded then, are told by a whole register
module _ (k : ℕ) (c : Card) (a b : List ℕ) where
  one_more : entered_of (k + 1) 0 c a b ≡ entry (entered_of k 0 c a b) (behind_all k b)
  unfolding entries
  one_more = rw (records_more k b, entries_append (records_in k b) (behind_all k b ∷ []) (begun 0 c a))

  end_so : end_of (entered_of (k + 1) 0 c a b).count ≡ end_of (k + 1)
  end_so = replay_ends (records_in (k + 1) b) 0 c a ∙ rw (length_records, zero-add)

  module _ (n : ℕ) (words : (run_from (run_as [] (begun 0 c a)) (records_in (k + 1) b)).words ≡ replicate n 0x9000)
      (gp : (entered_of (k + 1) 0 c a b).card.life.gp ≡ 0x07)
      (internal : (entered_of (k + 1) 0 c a b).card.loading.running.internal ≡ 0xA5) where
    last_word : (turn_of (entered_of k 0 c a b).card (entered_of k 0 c a b).area (behind_all k b)).word ≡ 0x9000
    last_word =
        last_of n 0x9000 _ (run_from (run_as [] (begun 0 c a)) (records_in k b)).words
        (sym (run_last (records_in k b) (behind_all k b) [] (begun 0 c a)) ∙ (rw (records_more k b) at words))

    told_whole : k + 1 ≤ most_events → whole_by (k + 1) (printed (entered_of (k + 1) 0 c a b)) ≡ true
    unfolding entry
    told_whole few =
        let g = entered_of k 0 c a b in
        let r = behind_all k b in
        let t = turn_of g.card g.area r in
        let m = counted g.count in
        let line = loaded_line m (byte_at r 0) t.number t.card.loading.running.rows in
        let card_so : (entered_of (k + 1) 0 c a b).card ≡ t.card = ap (λ (x : Register). x.card) one_more in
        let gp_so = ap (λ (x : Card). x.life.gp) (sym card_so) ∙ gp in
        let internal_so = ap (λ (x : Card). x.loading.running.internal) (sym card_so) ∙ internal in
        let line_so : line_of m (byte_at r 0) t.number t.word t.card ≡ line =
        line_loaded m (byte_at r 0) t.number t.word t.card last_word gp_so internal_so in
        let lines_so : (entered_of (k + 1) 0 c a b).lines ≡ g.lines ++ line =
        ap (λ (x : Register). x.lines) one_more ∙ ap (λ (l : List ℕ). g.lines ++ l) line_so in
        let sized : length g.lines ≡ (k + 1 - 1) * line_size = lines_sized 0 c a b [] k ∙ omega arith in
        rw (lines_so, end_so)
        (printed_whole (k + 1) m (byte_at r 0) t.number t.card.loading.running.rows g.lines
        (omega arith) few sized)

-- OF A SESSION THAT THE WRITER LAYS
module _ (chip order : List ℕ) (room : ℕ) (z : (session_writing chip order room).number ≡ 0) where
  form : chip_form chip ≡ true
  form = (write_only chip order (room - front_size) z).form

  events_so : events_in (session_of (session_writing chip order room).records)
      ≡ events_of (session_writing chip order room)
  events_so = let s = session_length chip order room z in omega arith

  text_so : text_of chip (session_writing chip order room) ≡ printed (register_of chip (session_writing chip order room))
  unfolding text_of
  text_so = rw (eq-eqb (session_writing chip order room).number 0 z)

  prints : text_of chip (session_writing chip order room)
      ≡ replay_of (chip ++ session_of (session_writing chip order room).records)
  unfolding register_of
  prints =
      let s = session_of (session_writing chip order room).records in
      let front : take chip_size (chip ++ s) ≡ chip = take_at chip s chip_size (form_size chip form) in
      let rest : drop chip_size (chip ++ s) ≡ s = drop_at chip s chip_size (form_size chip form) in
      text_so ∙ sym (replay_prints (chip ++ s) (rw front form) ∙ rw (front, rest, events_so))

  -- the card takes it, over a cleared file area
  ran : Session
  ran =
      let rs = (session_writing chip order room).records in
      run_of (fresh_of chip).card (zeros area_size) (length (job_with rs)) (session_of rs)

  taken : Taken (length (job_with (session_writing chip order room).records)) ran
  unfolding ran job_with
  taken = write_taken job_front_lem chip (zeros area_size) order (room - front_size) _ z refl (omega arith)

  ran_so : ran.run ≡ run_from (run_as [] (begun 0 (fresh_of chip).card (zeros area_size)))
      (records_in (events_of (session_writing chip order room)) (session_of (session_writing chip order room).records))
  unfolding ran
  ran_so =
      let s = session_of (session_writing chip order room).records in
      run_so (fresh_of chip).card (zeros area_size) _ s taken.number ∙ rw events_so

  card_so : (register_of chip (session_writing chip order room)).card ≡ ran.run.card
  unfolding register_of
  card_so =
      let w = session_writing chip order room in
      run_card (records_in (events_of w) (session_of w.records)) [] (begun 0 (fresh_of chip).card (zeros area_size))
      ∙ ap (λ (x : Run). x.card) (sym ran_so)

  gp_so : (register_of chip (session_writing chip order room)).card.life.gp ≡ 0x07
  gp_so = ap (λ (x : Card). x.life.gp) card_so ∙ taken.gp

  internal_so : (register_of chip (session_writing chip order room)).card.loading.running.internal ≡ 0xA5
  internal_so = ap (λ (x : Card). x.loading.running.internal) card_so ∙ taken.internal

  loaded : ((entry_of chip (session_writing chip order room)).gp ≡ 0x07)
      × ((entry_of chip (session_writing chip order room)).internal ≡ 0xA5)
  unfolding entry_of
  loaded =
      let e = eq-eqb (session_writing chip order room).number 0 z in
      (rw e gp_so, rw e internal_so)

  whole : whole_by (events_of (session_writing chip order room)) (text_of chip (session_writing chip order room)) ≡ true
  unfolding register_of
  whole =
      let rs = (session_writing chip order room).records in
      let k = 1 + length rs in
      let many : events_of (session_writing chip order room) ≡ k + 1 = omega arith in
      let few = session_few chip order room z in
      let words = ap (λ (x : Run). x.words) (sym (rw many at ran_so)) ∙ taken.words in
      rw (text_so, many)
      (told_whole k (fresh_of chip).card (zeros area_size) (session_of rs) (length (job_with rs)) words
      (rw many at gp_so) (rw many at internal_so) (omega arith))

-- A job that is not refused is so written.
job_writing_lem : (chip order : List ℕ) (area records lines : ℕ) → (job_writing chip order area records lines).number ≡ 0
    → job_writing chip order area records lines ≡ session_writing chip order (record_room records lines)
unfolding job_writing
job_writing_lem chip order area records lines =
    by_cond (λ (w : Writing). w.number ≡ 0 → w ≡ session_writing chip order (record_room records lines))
    (not (eqb area area_size)) (λ e z. absurd (omega arith)) (λ e z. refl)

-- THE THEOREMS: of a job that is not refused, whatever the lent memory
module _ (chip order : List ℕ) (area records lines : ℕ)
    (z : (job_writing chip order area records lines).number ≡ 0) where
  by_session : (P : Writing → Type 0)
      → ((session_writing chip order (record_room records lines)).number ≡ 0
      → P (session_writing chip order (record_room records lines)))
      → P (job_writing chip order area records lines)
  by_session P p =
      let e = job_writing_lem chip order area records lines z in
      subst P (sym e) (p (ap (λ (w : Writing). w.number) (sym e) ∙ z))

  -- its register is what `replay` prints of the chip record and the session that `cut` writes
  pub job_prints : text_of chip (job_writing chip order area records lines)
      ≡ replay_of (chip ++ session_of (job_writing chip order area records lines).records)
  job_prints =
      by_session (λ w. text_of chip w ≡ replay_of (chip ++ session_of w.records))
      (prints chip order (record_room records lines))

  -- its card ends loaded
  pub job_loaded : ((entry_of chip (job_writing chip order area records lines)).gp ≡ 0x07)
      × ((entry_of chip (job_writing chip order area records lines)).internal ≡ 0xA5)
  job_loaded =
      by_session (λ w. ((entry_of chip w).gp ≡ 0x07) × ((entry_of chip w).internal ≡ 0xA5))
      (loaded chip order (record_room records lines))

  -- its register is whole, and of a loaded card: a lot that is resumed leaves it alone
  job_whole_by : whole_by (events_of (job_writing chip order area records lines))
      (text_of chip (job_writing chip order area records lines)) ≡ true
  job_whole_by =
      by_session (λ w. whole_by (events_of w) (text_of chip w) ≡ true) (whole chip order (record_room records lines))

  pub job_whole : whole_register (text_of chip (job_writing chip order area records lines)) ≡ true
  job_whole = whole_so _ _ job_whole_by

  pub job_events : events_whole (text_of chip (job_writing chip order area records lines))
      ≡ events_of (job_writing chip order area records lines)
  job_events = whole_events _ _ job_whole_by
