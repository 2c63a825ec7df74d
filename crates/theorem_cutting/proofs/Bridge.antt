-- The published walk by groupings is the byte-wise walk: one grouping.
use Prim.Native.Nat.{ℕ, zero, suc, ◌-◌, ◌≤◌, ◌<◌}
use mathlib.Core.Path.{◌≡◌, refl, sym, ap, ◌∙◌}
use mathlib.Core.Bool.{Bool, true, false, cond, ◌||◌}
use mathlib.Core.List.{List, [], ◌∷◌}
use native.Mathlib.Omega.{arith}
use lib.Dec.{eqb, leb}
use lib.ListN.{length, take, drop, length-drop}
use borrow.Author.Tests.{leb-true, leb-false, ne_eqb}
use Rattle.model.specs.declared.Open.TheVariants.{Record}
use Rattle.model.specs.declared.Head.{Head}
use Rattle.model.specs.declared.Header.TheVariants.{Torn, Whole}
use Rattle.model.specs.declared.Verdict.{Verdict}
use Rattle.model.specs.declared.Verdict.TheVariants.{Passes, Refuses}
use Rattle.model.specs.Rows.{row_at}
use Rattle.model.specs.Header.{header_of}
use Rattle.model.specs.Loads.{State, file_list, with_internal, with_taken, with_open, changed}
use Rattle.model.specs.Rules.{Result, went, asked, failed, Rule, thence, ◌>>=◌, ◌>>◌, judged, unless, does, rule_a}
use Rattle.model.specs.Rules.{is_query, alone_at_start, query, rule_b, rule_c, due_row, rule_d, room_of, rule_e, length_ok}
use Rattle.model.specs.Rules.{rule_f, rule_g, kept, record_done, record_bytes, tag_spot, fed, opened_as, spanned, whole}
use Rattle.model.specs.Rules.{rule_h, grouping}
use Rattle.theorem_cutting.specs.Bytewise.{Part, between, ending, opened, awaited, started, behind, judged_head}
use Rattle.theorem_cutting.specs.Bytewise.{begun, run, at_end}
use Rattle.theorem_cutting.proofs.Splits.{thence_assoc}
use Rattle.theorem_cutting.proofs.Opened.{Leaves, laid_none, done_over, done_same, Agrees, fed_run}
use Rattle.theorem_cutting.proofs.Heads.{run_whole, run_torn, Long, header_long}
use Rattle.theorem_cutting.proofs.Values.{awaited_whole, awaited_short, Closed, kept_closed, not_table}
use Rattle.theorem_cutting.proofs.Values.{opened_misses}

-- two ways on from a rule that only judges agree where they do so after it has passed
after_judged : {A A' B : Type 0} (v : Verdict) (s : State) (f : ℕ → Rule A) (g : ℕ → Rule A') (K : A → Rule B)
    (K' : A' → Rule B)
    → ((n : ℕ) → v ≡ Passes n → thence (f n s) K ≡ thence (g n s) K')
    → thence (thence (judged v s) f) K ≡ thence (thence (judged v s) g) K'
after_judged (Passes n) s f g K K' h = h n refl
after_judged (Refuses w) s f g K K' h = refl

-- and from one that refuses by a test
after_test : {A A' B : Type 0} (x : Bool) (w : ℕ) (s s' : State) (f : Rule A) (g : Rule A') (K : A → Rule B)
    (K' : A' → Rule B)
    → (x ≡ false → thence (f s') K ≡ thence (g s') K')
    → thence (thence {A = ℕ} (cond x (failed w s) (went 0 s')) (λ a. f)) K
    ≡ thence (thence {A = ℕ} (cond x (failed w s) (went 0 s')) (λ a. g)) K'
after_test true w s s' f g K K' h = refl
after_test false w s s' f g K K' h = h refl

pub passes_true : (ok : Bool) (w n : ℕ) → unless ok w ≡ Passes n → ok ≡ true
passes_true true w n e = refl
passes_true false w n e = cc

-- no query may be asked: behind data byte 0, or by another tag
pub Plain : ℕ → List ℕ → Head → Type 0
Plain n bytes h = is_query h.tag ≡ true → alone_at_start n bytes h ≡ false

pub plain_behind : (n : ℕ) (bytes : List ℕ) (h : Head) → length bytes < n → Plain n bytes h
unfolding Plain
plain_behind n bytes h l q = rw (ne_eqb (length bytes) n (λ (e : length bytes ≡ n). omega arith))

pub plain_other : (n : ℕ) (bytes : List ℕ) (h : Head) → is_query h.tag ≡ false → Plain n bytes h
unfolding Plain
plain_other n bytes h e q = cc

module _ {B : Type 0} (capacity n p1 : ℕ) (k : Rule B) (K : List ℕ → Rule B) (bytes : List ℕ) (h : Head)
    (agrees : Agrees capacity (length bytes) k K)
    (size : 0 < h.size) (there : h.size ≤ length bytes) where
  abbrev rest : List ℕ
  rest = drop h.size bytes

  abbrev K' : Part → Rule B
  K' p s = thence (run capacity rest p s) (at_end k)

  rest_short : length rest < length bytes
  rest_short = rw (length-drop h.size bytes) (omega arith)

  left_short : (m : ℕ) → length (drop m rest) < length bytes
  left_short m = rw (length-drop m rest) (let q : length rest < length bytes = rest_short in omega arith)

  -- g and h of a value that may run on
  spans_some : (row room m : ℕ) (s : State) → length_ok row room (suc m) ≡ true
      → thence (fed rest (changed (λ l. with_open (opened_as row h.tag (suc m)) l.held l) s)) K
      ≡ K' between (opened row h.tag (suc m) s)
  unfolding opened
  spans_some row room m s ok = fed_run capacity (length bytes) k K agrees rest (suc m) _ rest_short
      (opened_misses row room h.tag m ok)

  empty_done : (tag : ℕ) (s : State)
      → record_bytes tag 0 0 [] (changed (λ l. with_open (Record tag 0 0) l.held l) s) ≡ record_done tag 0 zero s
  unfolding record_bytes
  empty_done tag s =
      done_over tag 0 0 (Record tag 0 0) s.load _
      ∙ done_same tag 0 0 0 0 s.load _ _ refl refl (laid_none (tag_spot (file_list s.load) tag) 0 s.area)

  spans_none : (row room : ℕ) (s : State) → length_ok row room 0 ≡ true
      → thence (fed rest (changed (λ l. with_open (opened_as row h.tag 0) l.held l) s)) K
      ≡ K' between (opened row h.tag 0 s)
  unfolding opened fed
  spans_none row room s ok =
      rw (not_table row room ok, empty_done h.tag s)
      (agrees.some rest (record_done h.tag 0 zero s) rest_short (unfold record_done in refl))

  spans_run : (row room len : ℕ) (s : State) → length_ok row room len ≡ true
      → thence (fed rest (changed (λ l. with_open (opened_as row h.tag len) l.held l) s)) K
      ≡ K' between (opened row h.tag len s)
  spans_run row room zero s ok = spans_none row room s ok
  spans_run row room (suc m) s ok = spans_some row room m s ok

  -- g and h of a value that may not
  kept_then : (row len : ℕ) (r : Result ℕ) → Leaves Closed r
      → thence (thence r (λ a. does (changed (with_taken row)) >> went (drop len rest))) K
      ≡ thence (thence (thence r (λ a. does (changed (with_taken row)) >> went between))
      (λ p. run capacity (drop len rest) p)) (at_end k)
  kept_then row len (went a s) e = agrees.some (drop len rest) (changed (with_taken row) s) (left_short len) e
  kept_then row len (asked t s) e = refl
  kept_then row len (failed w s) e = refl

  whole_run : (row len : ℕ) (s : State) → h.len ≡ len → Closed s → len ≤ length rest
      → thence (whole capacity row h rest s) K ≡ thence (awaited capacity row len s) K'
  unfolding whole
  whole_run row len s e o l =
      rw e (unfold ending in kept_then row len (kept capacity row (take len rest) s)
      (kept_closed capacity row (take len rest) s o))
      ∙ ap (λ (r : Result Part). thence r (at_end k)) (sym (awaited_whole capacity row len rest s l))
      ∙ thence_assoc (awaited capacity row len s) (λ p. run capacity rest p) (at_end k)

  whole_g : (row : ℕ) (x : Bool) (s : State) → leb h.len (length bytes - h.size) ≡ x → Closed s
      → thence (thence (judged (unless x 0x6A80) s) (λ a. whole capacity row h rest)) K
      ≡ thence (awaited capacity row h.len s) K'
  whole_g row true s q o =
      whole_run row h.len s refl o (rw (length-drop h.size bytes)
      (leb-true h.len (length bytes - h.size) q))
  whole_g row false s q o =
      sym (sym (thence_assoc (awaited capacity row h.len s) (λ p. run capacity rest p) (at_end k))
      ∙ awaited_short k capacity row h.len rest s
      (rw (length-drop h.size bytes) (leb-false h.len (length bytes - h.size) q)))

  by_spans : (row room : ℕ) (x : Bool) (s : State) → length_ok row room h.len ≡ true → Closed s
      → thence (thence (judged (unless (x || leb h.len (length bytes - h.size)) 0x6A80) s)
      (λ a. cond x (spanned row h rest) (whole capacity row h rest))) K
      ≡ thence (cond x (went between (opened row h.tag h.len s)) (awaited capacity row h.len s)) K'
  unfolding spanned
  by_spans row room true s ok o = spans_run row room h.len s ok
  by_spans row room false s ok o = whole_g row (leb h.len (length bytes - h.size)) s refl o

  -- g and h
  from_g_lem : (row room : ℕ) (s : State) → length_ok row room h.len ≡ true → Closed s
      → thence (thence (rule_g row h.len (length bytes - h.size) s) (λ a. rule_h capacity row h rest)) K
      ≡ thence (started capacity row h s) K'
  unfolding rule_g rule_h started
  from_g_lem row room s ok o = by_spans row room (row_at row).spans s ok o

  -- f, then e, then d
  from_f_lem : (row room : ℕ) (s : State) → Closed s
      → thence ((rule_f row room h.len >> (rule_g row h.len
      (length bytes - h.size) >> rule_h capacity row h rest)) s) K
      ≡ thence ((rule_f row room h.len >> started capacity row h) s) K'
  unfolding rule_f
  from_f_lem row room s o =
      after_judged (unless (length_ok row room h.len) 0x6700) s _ _ K K'
      (λ m e. from_g_lem row room s (passes_true (length_ok row room h.len) 0x6700 m e) o)

  from_e_lem : (row : ℕ) (s : State) → Closed s
      → thence ((rule_e row h.tag >>= λ room. (rule_f row room h.len >>
      (rule_g row h.len (length bytes - h.size) >> rule_h capacity row h rest))) s) K
      ≡ thence ((rule_e row h.tag >>= λ room. (rule_f row room h.len >> started capacity row h)) s) K'
  unfolding rule_e
  from_e_lem row s o = after_judged (room_of (file_list s.load) row h.tag) s _ _ K K' (λ room e. from_f_lem row room s o)

  abbrev judged_all : Rule (List ℕ)
  judged_all = do
    row ← rule_d h.tag
    room ← rule_e row h.tag
    rule_f row room h.len
    rule_g row h.len (length bytes - h.size)
    rule_h capacity row h rest

  from_d_lem : (s : State) → Closed s → thence (judged_all s) K ≡ thence (judged_head capacity h s) K'
  unfolding rule_d
  from_d_lem s o = after_judged (due_row s.load.running.rows s.load.running.last h.tag) s _ _ K K'
      (λ row e. from_e_lem row s o)

  -- c
  from_c_lem : (s : State) → Closed s → thence ((rule_c >> judged_all) s) K ≡ thence ((rule_c >> judged_head capacity h) s) K'
  unfolding rule_c
  from_c_lem s o = after_test (eqb s.load.running.internal 0xA5) 0x6985 s (changed (with_internal 0x5A) s) judged_all
      (judged_head capacity h) K K' (λ q. from_d_lem _ o)

  -- b
  rule_b_lem : (x y : Bool) (s : State) → (x ≡ true → y ≡ false) → (r : Result ℕ)
      → cond x (cond y r (failed 0x6A80 s)) (went 0 s) ≡ cond x (failed 0x6A80 s) (went 0 s)
  rule_b_lem true y s f r = rw (f refl)
  rule_b_lem false y s f r = refl

  from_b_lem : (s : State) → Plain n bytes h → Closed s
      → thence ((rule_b n p1 bytes h >> (rule_c >> judged_all)) s) K ≡ thence (begun capacity h s) K'
  unfolding rule_b query begun behind Plain
  from_b_lem s plain o =
      ap (λ (r : Result ℕ). thence (thence r (λ a. rule_c >> judged_all)) K)
      (rule_b_lem (is_query h.tag) (alone_at_start n bytes h) s plain _)
      ∙ after_test (is_query h.tag) 0x6A80 s s (rule_c >> judged_all) (rule_c >> judged_head capacity h) K K'
      (λ q. from_c_lem s o)

-- one grouping whose header is whole
pub grouping_run : {B : Type 0} (capacity n p1 : ℕ) (k : Rule B) (K : List ℕ → Rule B) (a : ℕ) (d : List ℕ) (h : Head)
    (s : State)
    → Agrees capacity (length (a ∷ d)) k K → header_of (a ∷ d) ≡ Whole h → Plain n (a ∷ d) h → Closed s
    → thence (grouping capacity n p1 (a ∷ d) s) K ≡ thence (run capacity (a ∷ d) between s) (at_end k)
unfolding grouping rule_a
grouping_run capacity n p1 k K a d h s agrees q plain o =
    let l : Long (a ∷ d) h = header_long (a ∷ d) h q in
    rw (q, run_whole capacity a d h s o q)
    (from_b_lem capacity n p1 k K (a ∷ d) h agrees (omega arith) l.there s plain o
    ∙ sym (thence_assoc (begun capacity h s) (λ p. run capacity (drop h.size (a ∷ d)) p) (at_end k)))

-- and one whose header is torn
pub grouping_torn : {B : Type 0} (capacity n p1 : ℕ) (k : Rule B) (K : List ℕ → Rule B) (a : ℕ) (d : List ℕ)
    (s : State)
    → header_of (a ∷ d) ≡ Torn → Closed s
    → thence (grouping capacity n p1 (a ∷ d) s) K ≡ thence (run capacity (a ∷ d) between s) (at_end k)
unfolding grouping rule_a
grouping_torn capacity n p1 k K a d s q o = rw (q, run_torn k capacity a d s o q)
