-- Hiding commutes with a grouping.
use Prim.Native.Nat.{ℕ, ◌-◌}
use mathlib.Core.Path.{◌≡◌, refl, ap}
use mathlib.Core.Bool.{false, ◌||◌, true≢false}
use mathlib.Core.List.{List}
use lib.Dec.{eqb, leb}
use lib.ListN.{length, take, drop}
use Rattle.lists.specs.Choice.{by_cond}
use Rattle.model.specs.declared.Head.{Head}
use Rattle.model.specs.declared.Header.{Header}
use Rattle.model.specs.declared.Header.TheVariants.{Torn, Whole}
use Rattle.model.specs.declared.Verdict.{Verdict}
use Rattle.model.specs.Rows.{row_of, row_at, row_table, due}
use Rattle.model.specs.Header.{header_of}
use Rattle.model.specs.Loads.{State, file_list, with_taken, with_open, with_secret, changed}
use Rattle.model.specs.Rules.{went, Rule, thence, judged, unless, whole_head, is_query, rule_a, rule_b, rule_c, rule_d}
use Rattle.model.specs.Rules.{rule_e, rule_f, rule_g, rule_h, due_row, room_of, length_ok, kept, opened_as, spanned, whole}
use Rattle.model.specs.Rules.{grouping}
use Rattle.theorem_secrecy.specs.View.{Mark, seens, secret_marks, value_marks, grouping_marks, missing_in, Hiding}
use Rattle.theorem_secrecy.specs.View.{view}
use Rattle.theorem_secrecy.specs.Veil.{veil_state}
use Rattle.theorem_secrecy.proofs.Marks.{take_secret, drop_secret}
use Rattle.theorem_secrecy.proofs.Veils.{kept_as, veil_result, veil_secret_lem}
use Rattle.theorem_secrecy.proofs.Rules.{no_query, veil_b, veil_c, veil_judged, veil_startup}
use Rattle.theorem_secrecy.proofs.Heads.{view_head}
use Rattle.model.specs.Stages.{from_b, from_c, from_d, from_e, from_f, from_g}
use Rattle.theorem_secrecy.proofs.RowCases.{row_cases}
use Rattle.theorem_secrecy.proofs.Hiding.{Hides, hides_then, hides_behind, hides_taken, hides_fed}

module _ (z : Hiding) (later : List ℕ → State → List Mark) where
  -- '2000', '2100', '2200': seen
  hides_seen : (capacity row : ℕ) (h : Head) (b : List ℕ) (s : State)
      → kept capacity row (take h.len b) (veil_state z s) ≡ veil_result z (kept capacity row (take h.len b) s)
      → Hides z later (seens h.len) b (whole capacity row h b s) (λ v. whole capacity row h v (veil_state z s))
  unfolding whole
  hides_seen capacity row h b s e =
      hides_taken z later h.len b (kept capacity row (take h.len b) s)
      (λ v. kept capacity row v (veil_state z s)) (changed (with_taken row)) e (λ t. refl)

  -- '3100', 'ssnn': seen, as far as they come
  hides_spanned : (row : ℕ) (h : Head) (b : List ℕ) (s : State) → missing_in (opened_as row h.tag h.len) ≡ h.len
      → Hides z later (seens h.len) b (spanned row h b s) (λ v. spanned row h v (veil_state z s))
  unfolding spanned
  hides_spanned row h b s e =
      rw e at (hides_fed z later b (changed (λ l. with_open (opened_as row h.tag h.len) l.held l) s))

  -- '3800', '410n': a secret that is kept
  abbrev keeping : ℕ → ℕ → Head → List ℕ → Rule (List ℕ)
  keeping k row h b s = went (drop h.len b) (changed (with_taken row)
      (changed (with_secret k (kept_as (take h.len b))) s))

  hides_secret : (k row : ℕ) (h : Head) (b : List ℕ) (s : State)
      → Hides z later (secret_marks k 0 h.len) b (keeping k row h b s) (λ v. keeping k row h v (veil_state z s))
  hides_secret k row h b s =
      let ms = later (drop h.len b) (changed (with_taken row) (changed (with_secret k (kept_as (take h.len b))) s))
      in
      rw (take_secret z k 0 h.len ms b, drop_secret z k 0 h.len ms b)
      (ap (λ (t : State). went (view z ms (drop h.len b)) (changed (with_taken row) t))
      (veil_secret_lem z k (take h.len b) s))

  -- the rows, one by one
  abbrev HidesRow : ℕ → Head → List ℕ → State → ℕ → Type 0
  HidesRow capacity h b s row =
      eqb row 0 ≡ false → Hides z later (value_marks row h.len) b (rule_h capacity row h b s)
      (λ v. rule_h capacity row h v (veil_state z s))

  hides_row : (capacity : ℕ) (h : Head) (b : List ℕ) (s : State) → is_query h.tag ≡ false
      → HidesRow capacity h b s (row_of h.tag)
  unfolding rule_h row_at row_table whole kept
  hides_row capacity h b s q =
      row_cases (HidesRow capacity h b s) h.tag q
      (λ e. absurd (true≢false e))
      (λ _. hides_seen capacity 2 h b s refl)
      (λ _. hides_seen capacity 3 h b s (veil_startup z capacity (take h.len b) s))
      (λ _. hides_seen capacity 4 h b s refl)
      (λ _. hides_spanned 5 h b s refl)
      (λ _. hides_secret 0 6 h b s)
      (λ _. hides_secret 1 7 h b s)
      (λ _. hides_secret 2 8 h b s)
      (λ _. hides_secret 3 9 h b s)
      (λ _. hides_secret 4 10 h b s)
      (λ _. hides_spanned 11 h b s refl)

  -- rules b to h, the last first; `front` are the marks of the grouping
  abbrev front : Head → List Mark
  front h = grouping_marks (Whole h)

  hides_g : (capacity : ℕ) (h : Head) (b : List ℕ) (s : State) → is_query h.tag ≡ false
      → eqb (row_of h.tag) 0 ≡ false
      → Hides z later (front h) b (from_g capacity (row_of h.tag) h b s)
      (λ v. from_g capacity (row_of h.tag) h v (veil_state z s))
  hides_g capacity h b s q e =
      hides_then z later (front h) b (rule_g (row_of h.tag) h.len (length b - h.size) s)
      (λ a. rule_h capacity (row_of h.tag) h (drop h.size b))
      (λ v. rule_g (row_of h.tag) h.len (length v - h.size) (veil_state z s))
      (λ v a. rule_h capacity (row_of h.tag) h (drop h.size v))
      (λ v l. rw l
      (unfold rule_g in veil_judged z (unless ((row_at (row_of h.tag)).spans || leb h.len (length b - h.size))
      0x6A80) s))
      (λ a t _. hides_behind z later h.size (value_marks (row_of h.tag) h.len) b
      (rule_h capacity (row_of h.tag) h (drop h.size b) t)
      (λ v. rule_h capacity (row_of h.tag) h v (veil_state z t))
      (hides_row capacity h (drop h.size b) t q e))

  hides_f : (capacity room : ℕ) (h : Head) (b : List ℕ) (s : State) → is_query h.tag ≡ false
      → eqb (row_of h.tag) 0 ≡ false
      → Hides z later (front h) b (from_f capacity (row_of h.tag) room h b s)
      (λ v. from_f capacity (row_of h.tag) room h v (veil_state z s))
  hides_f capacity room h b s q e =
      hides_then z later (front h) b (rule_f (row_of h.tag) room h.len s)
      (λ a. from_g capacity (row_of h.tag) h b)
      (λ v. rule_f (row_of h.tag) room h.len (veil_state z s)) (λ v a. from_g capacity (row_of h.tag) h v)
      (λ v l. unfold rule_f in veil_judged z (unless (length_ok (row_of h.tag) room h.len) 0x6700) s)
      (λ a t _. hides_g capacity h b t q e)

  hides_e : (capacity : ℕ) (h : Head) (b : List ℕ) (s : State) → is_query h.tag ≡ false
      → eqb (row_of h.tag) 0 ≡ false
      → Hides z later (front h) b (from_e capacity (row_of h.tag) h b s)
      (λ v. from_e capacity (row_of h.tag) h v (veil_state z s))
  hides_e capacity h b s q e =
      hides_then z later (front h) b (rule_e (row_of h.tag) h.tag s)
      (λ room. from_f capacity (row_of h.tag) room h b)
      (λ v. rule_e (row_of h.tag) h.tag (veil_state z s)) (λ v room. from_f capacity (row_of h.tag) room h v)
      (λ v l. unfold rule_e in veil_judged z (room_of (file_list s.load) (row_of h.tag) h.tag) s)
      (λ room t _. hides_f capacity room h b t q e)

  -- a row that is due is the tag's, and no unknown one
  hides_d : (capacity : ℕ) (h : Head) (b : List ℕ) (s : State) → is_query h.tag ≡ false
      → Hides z later (front h) b (from_d capacity h b s) (λ v. from_d capacity h v (veil_state z s))
  unfolding rule_d due_row
  hides_d capacity h b s q =
      by_cond Judged (eqb (row_of h.tag) 0) (λ _. unfold view in refl)
      (λ e. by_cond Judged (due s.load.running.rows s.load.running.last (row_of h.tag) h.tag)
      (λ _. hides_e capacity h b s q e) (λ _. unfold view in refl))
    where
      Judged : Verdict → Type 0
      Judged v =
          Hides z later (front h) b (thence (judged v s) (λ row. from_e capacity row h b))
          (λ w. thence (judged v (veil_state z s)) (λ row. from_e capacity row h w))

  hides_c : (capacity : ℕ) (h : Head) (b : List ℕ) (s : State) → is_query h.tag ≡ false
      → Hides z later (front h) b (from_c capacity h b s) (λ v. from_c capacity h v (veil_state z s))
  hides_c capacity h b s q =
      hides_then z later (front h) b (rule_c s) (λ a. from_d capacity h b) (λ v. rule_c (veil_state z s))
      (λ v a. from_d capacity h v)
      (λ v l. veil_c z s) (λ a t _. hides_d capacity h b t q)

  hides_b : (capacity n p1 : ℕ) (h : Head) (b : List ℕ) (s : State)
      → Hides z later (front h) b (from_b capacity n p1 h b s) (λ v. from_b capacity n p1 h v (veil_state z s))
  hides_b capacity n p1 h b s =
      hides_then z later (front h) b (rule_b n p1 b h s) (λ a. from_c capacity h b)
      (λ v. rule_b n p1 v h (veil_state z s)) (λ v a. from_c capacity h v)
      (λ v l. veil_b z n p1 v b h s l) (λ a t e. hides_c capacity h b t (no_query n p1 b h s a t e))

  -- rule a: the header is still what it was
  hides_a : (capacity n p1 : ℕ) (b : List ℕ) (s : State) (x : Header) → header_of b ≡ x
      → Hides z later (grouping_marks x) b (thence (whole_head x s) (λ h. from_b capacity n p1 h b))
      (λ v. grouping capacity n p1 v (veil_state z s))
  unfolding grouping rule_a
  hides_a capacity n p1 b s Torn e = unfold view in rw e
  hides_a capacity n p1 b s (Whole h) e = rw (view_head z later h b (from_b capacity n p1 h b s) e)
      (hides_b capacity n p1 h b s)

  pub hides_grouping : (capacity n p1 : ℕ) (b : List ℕ) (s : State)
      → Hides z later (grouping_marks (header_of b)) b (grouping capacity n p1 b s)
      (λ v. grouping capacity n p1 v (veil_state z s))
  unfolding grouping rule_a
  hides_grouping capacity n p1 b s = hides_a capacity n p1 b s (header_of b) refl
