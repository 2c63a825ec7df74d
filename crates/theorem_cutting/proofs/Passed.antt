-- What a grouping that the published walk passes has been found to be.
use Prim.Native.Nat.{ℕ, ◌-◌}
use mathlib.Core.Path.{◌≡◌, refl, subst}
use mathlib.Core.Bool.{Bool, true, false, cond, ◌||◌}
use mathlib.Core.List.{List}
use lib.Dec.{eqb, leb}
use lib.ListN.{length, drop}
use Rattle.model.specs.declared.Head.{Head}
use Rattle.model.specs.declared.Header.{Header}
use Rattle.model.specs.declared.Header.TheVariants.{Torn, Whole}
use Rattle.model.specs.declared.Verdict.{Verdict}
use Rattle.model.specs.declared.Verdict.TheVariants.{Passes, Refuses}
use Rattle.model.specs.Rows.{row_at, row_of, due}
use Rattle.model.specs.Header.{header_of}
use Rattle.model.specs.Loads.{State, file_list, with_internal, changed}
use Rattle.model.specs.Rules.{Result, went, asked, failed, Rule, thence, judged, unless, whole_head, rule_a, is_query}
use Rattle.model.specs.Rules.{query, rule_b, rule_c, due_row, rule_d, room_of, rule_e, length_ok, rule_f, rule_g, rule_h}
use Rattle.model.specs.Rules.{grouping}
use Rattle.theorem_cutting.proofs.Bridge.{passes_true}
use Rattle.theorem_cutting.proofs.Begins.{due_row_lem}
use Rattle.theorem_cutting.proofs.Splits.{failed_not, asked_not}
use Rattle.model.specs.Stages.{from_b, from_d, from_f}
use Rattle.model.proofs.Laws.{Stops, query_stops}

-- two rules that both went on
pub record Both {A B : Type 0} (r : Result A) (k : A → Rule B) (b : B) (s' : State) : Type 0 where
  pub mid : A
  pub state : State
  pub first : r ≡ went mid state
  pub next : k mid state ≡ went b s'

pub both : {A B : Type 0} (r : Result A) (k : A → Rule B) (b : B) (s' : State) → thence r k ≡ went b s'
    → Both r k b s'
both (went a s) k b s' e = record { mid = a; state = s; first = refl; next = e }
both (asked t s) k b s' e = absurd (asked_not t s s' b e)
both (failed w s) k b s' e = absurd (failed_not w s s' b e)

after_verdict : {B : Type 0} (v : Verdict) (s : State) (k : ℕ → Rule B) (b : B) (s' : State)
    → thence (judged v s) k ≡ went b s' → (n : ℕ) × (v ≡ Passes n) × (k n s ≡ went b s')
after_verdict (Passes n) s k b s' e = (n, refl, e)
after_verdict (Refuses w) s k b s' e = absurd (failed_not w s s' b e)

after_refusal : {B : Type 0} (x : Bool) (w : ℕ) (s s₁ : State) (k : Rule B) (b : B) (s' : State)
    → thence {A = ℕ} (cond x (failed w s) (went 0 s₁)) (λ a. k) ≡ went b s' → k s₁ ≡ went b s'
after_refusal true w s s₁ k b s' e = absurd (failed_not w s s' b e)
after_refusal false w s s₁ k b s' e = e

stopped : {A B : Type 0} (r : Result A) (k : A → Rule B) (b : B) (s' : State) → Stops r → thence r k ≡ went b s' → ⊥
stopped (went a s) k b s' h e = h
stopped (asked t s) k b s' h e = asked_not t s s' b e
stopped (failed w s) k b s' h e = failed_not w s s' b e

after_b : {B : Type 0} (n p1 : ℕ) (bytes : List ℕ) (h : Head) (s : State) (k : Rule B) (b : B) (s' : State)
    → thence (rule_b n p1 bytes h s) (λ a. k) ≡ went b s' → k s ≡ went b s'
unfolding rule_b
after_b n p1 bytes h s k b s' e = go (is_query h.tag) e
  where
    go : (x : Bool) → thence (cond x (query n p1 bytes h s) (went 0 s)) (λ a. k) ≡ went b s' → k s ≡ went b s'
    go true q = absurd (stopped (query n p1 bytes h s) (λ a. k) b s' (query_stops n p1 bytes h s) q)
    go false q = q

-- a grouping that passed: its header, and what rules d to h said of it
pub record Passed (capacity : ℕ) (bytes : List ℕ) (s : State) (left : List ℕ) (s' : State) : Type 0 where
  pub h : Head
  pub header : header_of bytes ≡ Whole h
  pub due_so : due s.load.running.rows s.load.running.last (row_of h.tag) h.tag ≡ true
  pub room : ℕ
  pub room_so : room_of (file_list s.load) (row_of h.tag) h.tag ≡ Passes room
  pub length_so : length_ok (row_of h.tag) room h.len ≡ true
  pub kept_so : rule_h capacity (row_of h.tag) h (drop h.size bytes) (changed (with_internal 0x5A) s)
      ≡ went left s'

module _ (capacity n p1 : ℕ) (bytes : List ℕ) (s : State) (left : List ℕ) (s' : State) where
  abbrev s₀ : State
  s₀ = changed (with_internal 0x5A) s

  -- f and g
  after_f : (h : Head) (row room : ℕ) → from_f capacity row room h bytes s₀ ≡ went left s'
      → (length_ok row room h.len ≡ true) × (rule_h capacity row h (drop h.size bytes) s₀ ≡ went left s')
  unfolding rule_f rule_g
  after_f h row room e =
      let f = after_verdict (unless (length_ok row room h.len) 0x6700) s₀ _ left s' e in
      let g = after_verdict (unless ((row_at row).spans || leb h.len (length bytes - h.size)) 0x6A80) s₀ _ left s'
      f.2 in
      (passes_true (length_ok row room h.len) 0x6700 f.0 f.1, g.2)

  -- d and e
  after_d : (h : Head) → header_of bytes ≡ Whole h → from_d capacity h bytes s₀ ≡ went left s'
      → Passed capacity bytes s left s'
  unfolding rule_d due_row rule_e
  after_d h q e =
      let d = after_verdict (due_row s.load.running.rows s.load.running.last h.tag) s₀ _ left s' e in
      let r : (d.0 ≡ row_of h.tag) × (due s.load.running.rows s.load.running.last (row_of h.tag)
      h.tag ≡ true) =
      due_row_lem (eqb (row_of h.tag) 0) (due s.load.running.rows s.load.running.last (row_of h.tag)
      h.tag) 0x6A88 0x6985 (row_of h.tag) d.0 d.1 in
      let f = after_verdict (room_of (file_list s.load) d.0 h.tag) s₀ _ left s' d.2 in
      let g : (length_ok d.0 f.0 h.len ≡ true)
      × (rule_h capacity d.0 h (drop h.size bytes) s₀ ≡ went left s') = after_f h d.0 f.0 f.2 in
      record {
        h = h;
        header = q;
        due_so = r.1;
        room = f.0;
        room_so = subst (λ (i : ℕ). room_of (file_list s.load) i h.tag ≡ Passes f.0) r.0 f.1;
        length_so = subst (λ (i : ℕ). length_ok i f.0 h.len ≡ true) r.0 g.0;
        kept_so = subst (λ (i : ℕ). rule_h capacity i h (drop h.size bytes) s₀ ≡ went left s') r.0 g.1;
      }

  -- c
  after_c : (h : Head) → header_of bytes ≡ Whole h → thence (rule_c s) (λ a. from_d capacity h bytes) ≡ went left s'
      → Passed capacity bytes s left s'
  unfolding rule_c
  after_c h q e = after_d h q (after_refusal (eqb s.load.running.internal 0xA5) 0x6985 s s₀
      (from_d capacity h bytes) left s' e)

  after_a : (x : Header) → header_of bytes ≡ x → thence (whole_head x s) (λ h. from_b capacity n p1 h bytes)
      ≡ went left s' → Passed capacity bytes s left s'
  after_a Torn q e = absurd (failed_not 0x6A80 s s' left e)
  after_a (Whole h) q e = after_c h q (after_b n p1 bytes h s _ left s' e)

  pub grouping_passed : grouping capacity n p1 bytes s ≡ went left s' → Passed capacity bytes s left s'
  unfolding grouping rule_a
  grouping_passed e = after_a (header_of bytes) refl e
