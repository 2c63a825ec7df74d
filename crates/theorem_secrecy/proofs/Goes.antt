-- Whether a grouping passes is decided without the bytes of a secret's value, without those behind the grouping, and
-- without the kept secrets.
use Prim.Native.Nat.{ℕ, ◌-◌}
use mathlib.Core.Path.{◌≡◌, refl}
use mathlib.Core.Bool.{Bool, true, false, true≢false, ◌||◌}
use mathlib.Core.List.{List}
use lib.Dec.{eqb, leb}
use lib.ListN.{length, take, drop}
use Rattle.lists.specs.Choice.{by_cond}
use Rattle.model.specs.declared.Open.{Open}
use Rattle.model.specs.declared.Open.TheVariants.{Shut, Table, Record}
use Rattle.model.specs.declared.Head.{Head}
use Rattle.model.specs.declared.Header.TheVariants.{Whole}
use Rattle.model.specs.declared.Verdict.{Verdict}
use Rattle.model.specs.Rows.{row_of, row_at, row_table, due}
use Rattle.model.specs.Header.{header_of}
use Rattle.model.specs.Loads.{State, file_list, with_taken, with_open, changed}
use Rattle.model.specs.Rules.{Result, went, asked, failed, Rule, thence, judged, unless, is_query, rule_a, rule_b, rule_c}
use Rattle.model.specs.Rules.{rule_d, rule_e, rule_f, rule_g, rule_h, due_row, room_of, length_ok, kept, startup, opened_as}
use Rattle.model.specs.Rules.{feeding, fed, spanned, whole, table_bytes, grouping}
use Rattle.theorem_secrecy.specs.View.{is_secret, missing_in, Hiding}
use Rattle.theorem_secrecy.specs.Veil.{veil_state}
use Rattle.theorem_secrecy.proofs.Veils.{veil_result}
use Rattle.theorem_secrecy.proofs.Rules.{no_query, veil_b, veil_c, veil_judged, veil_startup, veil_table}
use Rattle.model.specs.Stages.{from_b, from_c, from_d, from_e, from_f, from_g}
use Rattle.theorem_secrecy.proofs.RowCases.{row_cases}

abbrev pub goes : {A : Type 0} → Result A → Bool
goes (went a s) = true
goes (asked tag s) = false
goes (failed w s) = false

module _ (z : Hiding) where
  goes_then : {A B : Type 0} (r first : Result A) (k then : A → Rule B) → first ≡ veil_result z r
      → ((a : A) (s : State) → r ≡ went a s → goes (then a (veil_state z s)) ≡ goes (k a s))
      → goes (thence first then) ≡ goes (thence r k)
  goes_then r first k then e p = rw e (on r refl)
    where
      on : (x : Result _) → r ≡ x → goes (thence (veil_result z x) then) ≡ goes (thence x k)
      on (went a s) q = p a s q
      on (asked tag s) q = refl
      on (failed w s) q = refl

  goes_feeding : (o : Open) (v b : List ℕ) (s : State) → take (missing_in o) v ≡ take (missing_in o) b
      → goes (feeding o v (veil_state z s)) ≡ goes (feeding o b s)
  goes_feeding Shut v b s e = refl
  goes_feeding (Table held missing) v b s e =
      goes_then (table_bytes (take missing b) s) (table_bytes (take missing v) (veil_state z s))
      (λ n. went (drop missing b)) (λ n. went (drop missing v))
      (rw e (veil_table z (take missing b) s)) (λ n t _. refl)
  goes_feeding (Record tag written missing) v b s e = refl

  pub goes_fed : (v b : List ℕ) (s : State) → take (missing_in s.load.running.pending) v
      ≡ take (missing_in s.load.running.pending) b
      → goes (fed v (veil_state z s)) ≡ goes (fed b s)
  unfolding fed
  goes_fed v b s e = goes_feeding s.load.running.pending v b s e

  goes_spanned : (row : ℕ) (h : Head) (v b : List ℕ) (s : State) → missing_in (opened_as row h.tag h.len) ≡ h.len
      → take h.len v ≡ take h.len b
      → goes (spanned row h v (veil_state z s)) ≡ goes (spanned row h b s)
  unfolding spanned
  goes_spanned row h v b s m e = goes_fed v b (changed (λ l. with_open (opened_as row h.tag h.len) l.held l) s)
      (rw m e)

  -- a value that is no secret's is read; a secret's is not
  module _ (capacity : ℕ) (h : Head) (v b : List ℕ) (s : State) where
    abbrev GoesRow : ℕ → Type 0
    GoesRow row = eqb row 0 ≡ false → (is_secret row ≡ false → take h.len v ≡ take h.len b)
        → goes (rule_h capacity row h v (veil_state z s)) ≡ goes (rule_h capacity row h b s)

    goes_row : is_query h.tag ≡ false → GoesRow (row_of h.tag)
    unfolding rule_h row_at row_table whole kept
    goes_row q =
        row_cases GoesRow h.tag q
        (λ e _. absurd (true≢false e))
        (λ _ _. refl)
        (λ _ e. goes_then (startup capacity (take h.len b) s) (startup capacity (take h.len v) (veil_state z s))
        (λ a t. went (drop h.len b) (changed (with_taken 3) t))
        (λ a t. went (drop h.len v) (changed (with_taken 3) t))
        (rw (e refl) (veil_startup z capacity (take h.len b) s)) (λ a t _. refl))
        (λ _ _. refl)
        (λ _ e. goes_spanned 5 h v b s refl (e refl))
        (λ _ _. refl)
        (λ _ _. refl)
        (λ _ _. refl)
        (λ _ _. refl)
        (λ _ _. refl)
        (λ _ e. goes_spanned 11 h v b s refl (e refl))

  -- rules b to h, the last first
  module _ (capacity : ℕ) (h : Head) (v b : List ℕ) (size : length v ≡ length b)
      (value : is_secret (row_of h.tag) ≡ false
      → take h.len (drop h.size v) ≡ take h.len (drop h.size b)) where
    goes_g : (s : State) → is_query h.tag ≡ false → eqb (row_of h.tag) 0 ≡ false
        → goes (from_g capacity (row_of h.tag) h v (veil_state z s)) ≡ goes (from_g capacity (row_of h.tag) h b s)
    unfolding rule_g
    goes_g s q e =
        goes_then (judged (unless ((row_at (row_of h.tag)).spans || leb h.len (length b - h.size)) 0x6A80) s)
        (judged (unless ((row_at (row_of h.tag)).spans || leb h.len (length v - h.size)) 0x6A80) (veil_state z s))
        (λ a. rule_h capacity (row_of h.tag) h (drop h.size b))
        (λ a. rule_h capacity (row_of h.tag) h (drop h.size v))
        (rw size (veil_judged z (unless ((row_at (row_of h.tag)).spans || leb h.len (length b - h.size)) 0x6A80)
        s))
        (λ a t _. goes_row capacity h (drop h.size v) (drop h.size b) t q e value)

    goes_f : (s : State) (room : ℕ) → is_query h.tag ≡ false → eqb (row_of h.tag) 0 ≡ false
        → goes (from_f capacity (row_of h.tag) room h v (veil_state z s))
        ≡ goes (from_f capacity (row_of h.tag) room h b s)
    unfolding rule_f
    goes_f s room q e =
        let ok = unless (length_ok (row_of h.tag) room h.len) 0x6700 in
        goes_then (judged ok s) (judged ok (veil_state z s)) (λ a. from_g capacity (row_of h.tag) h b)
        (λ a. from_g capacity (row_of h.tag) h v)
        (veil_judged z ok s) (λ a t _. goes_g t q e)

    goes_e : (s : State) → is_query h.tag ≡ false → eqb (row_of h.tag) 0 ≡ false
        → goes (from_e capacity (row_of h.tag) h v (veil_state z s)) ≡ goes (from_e capacity (row_of h.tag) h b s)
    unfolding rule_e
    goes_e s q e =
        let room = room_of (file_list s.load) (row_of h.tag) h.tag in
        goes_then (judged room s) (judged room (veil_state z s)) (λ n. from_f capacity (row_of h.tag) n h b)
        (λ n. from_f capacity (row_of h.tag) n h v)
        (veil_judged z room s) (λ n t _. goes_f t n q e)

    goes_d : (s : State) → is_query h.tag ≡ false
        → goes (from_d capacity h v (veil_state z s)) ≡ goes (from_d capacity h b s)
    unfolding rule_d due_row
    goes_d s q =
        by_cond Judged (eqb (row_of h.tag) 0) (λ _. refl)
        (λ e. by_cond Judged (due s.load.running.rows s.load.running.last (row_of h.tag) h.tag)
        (λ _. goes_e s q e) (λ _. refl))
      where
        Judged : Verdict → Type 0
        Judged x = goes (thence (judged x (veil_state z s)) (λ row. from_e capacity row h v))
            ≡ goes (thence (judged x s) (λ row. from_e capacity row h b))

    goes_c : (s : State) → is_query h.tag ≡ false
        → goes (from_c capacity h v (veil_state z s)) ≡ goes (from_c capacity h b s)
    goes_c s q = goes_then (rule_c s) (rule_c (veil_state z s)) (λ a. from_d capacity h b) (λ a. from_d capacity h v)
        (veil_c z s) (λ a t _. goes_d t q)

    goes_b : (n p1 : ℕ) (s : State) → goes (from_b capacity n p1 h v (veil_state z s))
        ≡ goes (from_b capacity n p1 h b s)
    goes_b n p1 s =
        goes_then (rule_b n p1 b h s) (rule_b n p1 v h (veil_state z s)) (λ a. from_c capacity h b)
        (λ a. from_c capacity h v) (veil_b z n p1 v b h s size)
        (λ a t e. goes_c t (no_query n p1 b h s a t e))

    pub goes_grouping : (n p1 : ℕ) (s : State) → header_of b ≡ Whole h → header_of v ≡ Whole h
        → goes (grouping capacity n p1 v (veil_state z s)) ≡ goes (grouping capacity n p1 b s)
    unfolding grouping rule_a
    goes_grouping n p1 s e f = rw (e, f) (goes_b n p1 s)
