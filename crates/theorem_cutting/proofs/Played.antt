-- The job's records, played on a fresh card: a front, '9484', and then the writer's commands, whatever the name.
use Prim.Native.Nat.{ℕ, suc, ◌≤◌}
use mathlib.Core.Path.{◌≡◌, refl, ap, ◌∙◌}
use mathlib.Core.Bool.{true}
use mathlib.Core.List.{List, [], ◌∷◌, ◌++◌, append_assoc}
use native.Mathlib.Omega.{arith}
use lib.Dec.{eqb}
use lib.ListN.{length, replicate}
use borrow.Author.Tests.{ne_eqb}
use Rattle.lists.specs.Bytes.{zeros}
use Rattle.model.specs.declared.Chip.{Chip}
use Rattle.model.specs.Stored.{fresh_card, area_size, data_room}
use Rattle.model.specs.Rows.{row_table, missing_from, ready_for, none_from, due}
use Rattle.model.specs.Header.{header_of}
use Rattle.model.specs.Loads.{State, with_internal, with_taken, changed}
use Rattle.model.specs.Rules.{went, rule_a, rule_b, query, challenged, fed, grouping}
use Rattle.model.specs.Command.{walk, ready, the_end, command}
use Rattle.model.specs.Events.{gives, commanded, store_data, personalizing, otherwise, event, answer_to}
use Rattle.model.specs.Session.{replied, turn_of, Run, turned, after, run_from}
use Rattle.model.specs.Order.{challenged_state, stored, stored_all}
use Rattle.theorem_cutting.specs.Bytewise.{between, run, Misses}
use Rattle.theorem_cutting.specs.Job.{Front, job_card}
use Rattle.theorem_cutting.proofs.Stored.{turn_stored}
use Rattle.theorem_cutting.proofs.Fronts.{run_at, fresh_state, after_event, front_played}
use Rattle.theorem_cutting.proofs.Units.{Chain, done, link}
use Rattle.theorem_cutting.proofs.Commands.{command_passes}
use Rattle.lists.specs.Truth.{same_if}

-- the card is loaded
abbrev pub loaded : State → State
loaded s = changed (with_internal 0xA5) s

-- '9484'
abbrev pub asking : List ℕ
asking = 0x94 ∷ 0x84 ∷ 0x00 ∷ []

pub words_more : (ws : List ℕ) (n : ℕ) → (ws ++ (0x9000 ∷ [])) ++ replicate n 0x9000 ≡ ws ++ replicate (suc n) 0x9000
words_more ws n = append_assoc ws (0x9000 ∷ []) (replicate n 0x9000)

-- on the card of a chip that was installed by a name and selected
module _ (chip : Chip) (name : List ℕ) where
  -- a STORE DATA that passes
  event_stores : (p1 : ℕ) (d : List ℕ) (s : State) → 1 ≤ length d
      → event (record { kind = 2; p1 = p1; bytes = d }) (job_card chip name s) s.area
      ≡ commanded (job_card chip name s) (command chip.capacity p1 d s)
  unfolding event personalizing otherwise store_data
  event_stores p1 d s l =
      rw (same_if (eqb s.load.running.internal 0x5A), ne_eqb (length d) 0 (λ (e : length d ≡ 0). omega arith))

  turn_stores : (p1 n : ℕ) (u : List ℕ) (s s₁ : State) → Misses s.load.running.pending n
      → 1 ≤ length u → run chip.capacity u between s ≡ went between s₁
      → turn_of (job_card chip name s) s.area (stored p1 u)
      ≡ replied (commanded (job_card chip name s) (the_end p1 s₁))
  turn_stores p1 n u s s₁ m l e =
      turn_stored (record { kind = 2; p1 = p1; bytes = u }) (job_card chip name s) s.area refl
      ∙ ap replied (event_stores p1 u s l ∙ ap (commanded (job_card chip name s))
      (command_passes chip.capacity p1 n u s s₁ m l e))

  after_more : (n : ℕ) (ws u : List ℕ) (s s₁ : State) → Misses s.load.running.pending n
      → 1 ≤ length u → run chip.capacity u between s ≡ went between s₁
      → after (run_at ws chip name s) (stored 0x00 u) ≡ run_at (ws ++ (0x9000 ∷ [])) chip name s₁
  unfolding after
  after_more n ws u s s₁ m l e = ap (turned (run_at ws chip name s))
      (turn_stores 0x00 n u s s₁ m l e) ∙ unfold the_end in refl

  after_last : (n : ℕ) (ws u : List ℕ) (s s₁ : State) → Misses s.load.running.pending n
      → 1 ≤ length u → run chip.capacity u between s ≡ went between s₁
      → ready s₁ ≡ true
      → after (run_at ws chip name s) (stored 0x80 u) ≡ run_at (ws ++ (0x9000 ∷ [])) chip name (loaded s₁)
  unfolding after
  after_last n ws u s s₁ m l e r = ap (turned (run_at ws chip name s))
      (turn_stores 0x80 n u s s₁ m l e) ∙ unfold the_end in rw r

  -- the writer's commands, played: each '9000', and the card is loaded
  abbrev Takes : State → List (List ℕ) → State → Type 0
  Takes s us s' = (ws : List ℕ) → run_from (run_at ws chip name s) (stored_all us)
      ≡ run_at (ws ++ replicate (length us) 0x9000) chip name (loaded s')

  takes_next : {s₁ s' : State} {us : List (List ℕ)} → Chain chip.capacity data_room s₁ us s'
      → (n : ℕ) (u : List ℕ) (s : State)
      → Misses s.load.running.pending n → 1 ≤ length u → run chip.capacity u between s ≡ went between s₁
      → ready s' ≡ true
      → (1 ≤ length us → Takes s₁ us s') → Takes s (u ∷ us) s'
  unfolding stored_all run_from
  takes_next (done {s = s₁} {s'} q) n u s m l e r k ws =
      after_last n ws u s s' m l (e ∙ ap (went between) q) r
  takes_next {s'} (link {s = s₁} {u = v} {us = vs} n₁ m₁ l₁ h₁ e₁ c) n u s m l e r k ws =
      ap (λ (w : Run). run_from w (stored_all (v ∷ vs))) (after_more n ws u s s₁ m l e)
      ∙ k (omega arith) (ws ++ (0x9000 ∷ []))
      ∙ ap (λ (x : List ℕ). run_at x chip name (loaded s')) (words_more ws (suc (length vs)))

  pub takes_all : {s s' : State} {us : List (List ℕ)} → Chain chip.capacity data_room s us s'
      → 1 ≤ length us → ready s' ≡ true → Takes s us s'
  takes_all (done q) h r = absurd (omega arith)
  takes_all (link {s} {u = u} n m l h₁ e c) h r = takes_next c n u s m l e r (λ k. takes_all c k r)

  event_challenge : (a : List ℕ) → event (record { kind = 2; p1 = 0x01; bytes = asking })
      (job_card chip name (fresh_state a)) a
      ≡ gives 0x9000 (answer_to 0x9484 (job_card chip name (changed (with_taken 1) (fresh_state a))))
      (job_card chip name (changed (with_taken 1) (fresh_state a))) a
  unfolding event otherwise store_data command fed walk grouping rule_a header_of rule_b query challenged due ready_for
      missing_from row_table none_from
  event_challenge a = refl

  begun_challenge : (ws a : List ℕ) → after (run_at ws chip name (fresh_state a)) (stored 0x01 asking)
      ≡ run_at (ws ++ (0x9000 ∷ [])) chip name (changed (with_taken 1) (fresh_state a))
  begun_challenge ws a =
      after_event ws a (job_card chip name (fresh_state a)) (record { kind = 2; p1 = 0x01; bytes = asking }) _ refl
      (event_challenge a)

-- behind a front, '9484': the state is that in which the order's walk begins
pub begun_all : {name : List ℕ} {front : List (List ℕ)} → Front name front → (chip : Chip) (a : List ℕ)
    (rs : List (List ℕ)) → run_from (record { words = []; card = fresh_card chip; area = a })
    (front ++ stored 0x01 asking ∷ rs)
    ≡ run_from (run_at (replicate (length front) 0x9000 ++ (0x9000 ∷ [])) chip name challenged_state) rs
unfolding run_from
begun_all {name} {front} f chip a rs =
    front_played f chip a (stored 0x01 asking ∷ rs)
    ∙ ap (λ (w : Run). run_from w rs) (begun_challenge chip name (replicate (length front) 0x9000) (zeros area_size))
