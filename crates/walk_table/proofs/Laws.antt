-- Bytes of an open '3100' up to the end of a descriptor.
use Prim.Native.Nat.{ℕ, ◌+◌, ◌-◌, ◌≤◌, ◌<◌, min}
use mathlib.Core.Path.{◌≡◌, refl, ap, ◌∙◌}
use mathlib.Core.List.{List, []}
use native.Mathlib.Omega.{arith}
use lib.ListN.{length, drop, set, length-drop}
use lib.Seq.{length-take-le}
use Rattle.lists.specs.Bytes.{part, byte_at, zeros}
use Rattle.lists.specs.Over.{overwrite}
use Rattle.model.specs.declared.Loading.{Loading}
use Rattle.model.specs.declared.Open.{Open}
use Rattle.model.specs.declared.Open.TheVariants.{Shut, Table, Record}
use Rattle.model.specs.declared.Verdict.{Verdict}
use Rattle.model.specs.declared.Verdict.TheVariants.{Passes, Refuses}
use Rattle.model.specs.declared.Descriptor.{Descriptor}
use Rattle.model.specs.Table.{admit_of, descriptor_of}
use Rattle.model.specs.Loads.{file_list, with_file, with_open, with_progress}
use Rattle.model.specs.Rules.{Result, went, failed, thence, table_byte, table_bytes}
use Rattle.theorem_sound.proofs.Feeding.{Fed}
use Rattle.walk_course.specs.Steps.{state_of}
use Rattle.walk_table.specs.declared.Taken.{Taken}
use Rattle.walk_table.proofs.Bytes.{open_facts, never_shut, never_record, run_done, admitted_room}
use Rattle.walk_table.proofs.Bytes.{table_held, table_last, table_fails, table_passes_on, fed_on}
use Rattle.walk_table.specs.Bytes.{held_of, Ended, TakenTo, table_run}

-- what misses bytes of '3100' has it open, with less than a descriptor held
pub opened : (l : Loading) (m held at end : ℕ) → held ≡ held_of l.running.pending → Fed 0 m (state_of l [])
    → at < end → end - at ≤ m
    → (l.running.pending ≡ Table held m) × (held ≤ 17) × (l.count ≤ 31) × (length l.files ≡ 31)
opened l m held at end q y i j = rw q (go l.running.pending refl)
  where
    go : (o : Open) → l.running.pending ≡ o → (o ≡ Table (held_of o) m) × (held_of o ≤ 17) × (l.count ≤ 31)
        × (length l.files ≡ 31)
    go Shut e = absurd (never_shut l m y e (omega arith))
    go (Record tag written left) e = absurd (never_record l m y tag written left e)
    go (Table h left) e = let f = open_facts l m y h left e in (ap (Table h) f.0, omega (arith, f.1), f.2, f.3)

-- n bytes from a place on: as many as end no descriptor, or all of them
module _ (d : List ℕ) (at end held m n : ℕ) (e : n ≡ min (17 - held) (end - at)) (h : held ≤ 17) (i : at < end)
    (j : end ≤ length d)
    (l r : Loading) (o : l.running.pending ≡ Table held m)
    (k : r ≡ with_open (Table (held + n) (m - n)) (overwrite l.held held (part d at (at + n - at))) l)
    (a : List ℕ) where
  -- they are held
  pub holds : table_bytes (part d at (at + n - at)) (state_of l a) ≡ went 0 (state_of r a)
  holds =
      let p : at + n - at ≡ n = omega arith in
      let q : length (part d at (at + n - at)) ≡ n =
      length-take-le (at + n - at) (drop at d) (rw length-drop (omega arith)) ∙ p in
      table_held (part d at (at + n - at)) l a held m o (omega arith) ∙ rw (q, k)

  module _ (x : at + n ≡ end → ⊥) (t : Taken) where
    abbrev last : Result ℕ
    last = table_byte 17 (m - n - 1) (byte_at d (at + n)) (state_of r a)

    with_last_lem : table_bytes (part d at (at + n + 1 - at)) (state_of l a) ≡ thence last (λ y. went 0)
    with_last_lem =
        let q : held + n ≡ 17 = omega arith in
        let p : r.running.pending ≡ Table 17 (m - n) = ap (λ (l : Loading). l.running.pending) k ∙ rw q in
        table_last d at (at + n) (m - n) (state_of l a) (state_of r a) (omega arith) (omega arith) p holds

    -- a descriptor's last byte behind them
    pub ends : Ended t.verdict (at + n + 1) last (state_of t.load a)
        → TakenTo t.verdict d at end (state_of l a) (state_of t.load a)
    ends = go t.verdict
      where
        go : (v : Verdict) → Ended v (at + n + 1) last (state_of t.load a)
            → TakenTo v d at end (state_of l a) (state_of t.load a)
        go (Passes y) f = rw f.0 (omega arith, omega arith, with_last_lem ∙ rw f.1)
        go (Refuses w) f = table_fails d at (at + n + 1) end w (state_of l a) _ (omega arith) (omega arith)
            (with_last_lem ∙ rw f)

-- how far the bytes up to a place are taken: what is left comes to the same
pub record Run (d : List ℕ) (start end : ℕ) (first : Loading) (at m : ℕ) (l : Loading) : Type 0 where
  pub from : start ≤ at
  pub to : at ≤ end
  pub within : end ≤ length d
  pub missed : end - at ≤ m
  pub fed : Fed 0 m (state_of l [])
  pub same : (a : List ℕ) → table_bytes (part d start (end - start)) (state_of first a)
      ≡ table_bytes (part d at (end - at)) (state_of l a)

-- the descriptor's last byte behind n others
one_less : (m n : ℕ) → m - (n + 1) ≡ m - n - 1
one_less m n = omega arith

one_left : (m n : ℕ) → n + 1 ≤ m → 1 ≤ m - n
one_left m n h = omega arith

missed_on : (end at m n : ℕ) → end - at ≤ m → end - (at + n + 1) ≤ m - n - 1
missed_on end at m n h = omega arith

so_many : (at n : ℕ) → at + n + 1 - at ≡ n + 1
so_many at n = omega arith

abbrev last_of : List ℕ → ℕ → Loading → Descriptor
last_of d last r = descriptor_of (set r.held 17 (byte_at d last))

-- a turn of the loop takes n bytes, up to a descriptor's last or to the end of the bytes: what then may come
pub record Turned (d : List ℕ) (start end : ℕ) (first : Loading) (at m n : ℕ) (l r : Loading) : Type 0 where
  pub fits : n ≤ m
  pub ahead : (at + n ≡ end → ⊥) → at + n < end
  pub within : (at + n ≡ end → ⊥) → at + n < length d
  pub count : l.count ≤ 31
  pub room : length l.files ≡ 31
  -- the end, within a descriptor
  pub breaks : at + n ≡ end → (a : List ℕ) → table_bytes (part d start (end - start)) (state_of first a)
      ≡ went 0 (state_of r a)
  -- a descriptor is refused
  pub refuses : (at + n ≡ end → ⊥) → (u : ℕ) → admit_of (last_of d (at + n) r) (file_list r) ≡ Refuses u
      → (a : List ℕ) → table_bytes (part d start (end - start)) (state_of first a) ≡ failed u (state_of r a)
  -- or stands in the table
  pub enters : (at + n ≡ end → ⊥) → (u : ℕ) → admit_of (last_of d (at + n) r) (file_list r) ≡ Passes u → (t : Loading)
      → t ≡ with_progress (table_run (m - n - 1) r.running) (zeros 18) (with_file (last_of d (at + n) r) r)
      → (l.count < 31) × (1 ≤ m - n) × Run d start end first (at + n + 1) (m - n - 1) t

module _ (d : List ℕ) (start end : ℕ) (first : Loading) (at m : ℕ) (l : Loading) (k : Run d start end first at m l)
    (i : at < end)
    (held n : ℕ) (q : held ≡ held_of l.running.pending) (e : n ≡ min (17 - held) (end - at))
    (r : Loading) (w : r ≡ with_open (Table (held + n) (m - n)) (overwrite l.held held (part d at (at + n - at))) l)
  where
    facts : (l.running.pending ≡ Table held m) × (held ≤ 17) × (l.count ≤ 31) × (length l.files ≡ 31)
    facts = opened l m held at end q k.fed i k.missed

    held_now : (a : List ℕ) → table_bytes (part d at (at + n - at)) (state_of l a) ≡ went 0 (state_of r a)
    held_now a = let f = facts in holds d at end held m n e f.1 i k.within l r f.0 w a

    taken_to : (at + n ≡ end → ⊥) → (v : Verdict) (t : Loading) (a : List ℕ)
        → Ended v (at + n + 1) (table_byte 17 (m - n - 1) (byte_at d (at + n)) (state_of r a)) (state_of t a)
        → TakenTo v d at end (state_of l a) (state_of t a)
    taken_to x v t a g =
        let f = facts in
        ends d at end held m n e f.1 i k.within l r f.0 w a x (record { verdict = v; load = t }) g

    refused : (at + n ≡ end → ⊥) → (u : ℕ) → admit_of (last_of d (at + n) r) (file_list r) ≡ Refuses u
        → (a : List ℕ) → table_bytes (part d start (end - start)) (state_of first a) ≡ failed u (state_of r a)
    unfolding table_byte
    refused x u g a = k.same a ∙ taken_to x (Refuses u) r a (rw g)

    entered : (at + n ≡ end → ⊥) → (u : ℕ) → admit_of (last_of d (at + n) r) (file_list r) ≡ Passes u → (t : Loading)
        → t ≡ with_progress (table_run (m - n - 1) r.running) (zeros 18) (with_file (last_of d (at + n) r) r)
        → (l.count < 31) × (1 ≤ m - n) × Run d start end first (at + n + 1) (m - n - 1) t
    unfolding table_byte
    entered x u g t z =
        let o = facts in
        let h : (a : List ℕ) → TakenTo (Passes (at + n + 1)) d at end (state_of l a) (state_of t a) = λ a. taken_to x
        (Passes (at + n + 1)) t a
        (refl, rw (g, z) (ap (went 0) (run_done (m - n - 1) (with_file (last_of d (at + n) r) r) a))) in
        let f = h [] in
        let c : length (file_list r) ≡ l.count = rw w (length-take-le _ _ (omega arith)) in (
          omega (arith, admitted_room _ _ _ g),
          one_left m n (omega arith),
          record {
            from = omega (arith, k.from);
            to = f.1;
            within = k.within;
            missed = missed_on end at m n k.missed;
            fed = rw (← one_less m n, ← so_many at n)
                (fed_on d at (at + n + 1) m _ _ (omega arith) (omega arith) (omega arith) k.fed f.2);
            same = λ a. k.same a ∙ table_passes_on d at (at + n + 1) end _ _ (omega arith) f.1 (h a).2;
          },
        )

    pub turned : Turned d start end first at m n l r
    turned = let f = facts in record {
      fits = omega (arith, k.missed);
      ahead = λ x. omega arith;
      within = λ x. omega (arith, k.within);
      count = f.2;
      room = f.3;
      breaks = λ z a. k.same a ∙ rw (← z) (held_now a);
      refuses = refused;
      enters = entered;
    }
