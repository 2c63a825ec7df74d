-- What a whole header comes to, and how long its value may be.
use Prim.Native.Nat.{ℕ, zero, suc, ◌-◌, ◌≤◌}
use mathlib.Core.Path.{◌≡◌, refl, sym, ap, ◌∙◌, subst}
use mathlib.Core.Bool.{Bool, true, false, cond}
use mathlib.Core.List.{List}
use native.Mathlib.Omega.{arith}
use lib.Dec.{eqb, lit≤}
use lib.ListN.{get_or}
use borrow.Author.Tests.{eqb-true}
use Rattle.model.specs.declared.Row.{Row}
use Rattle.model.specs.declared.Head.{Head}
use Rattle.model.specs.declared.Verdict.{Verdict}
use Rattle.model.specs.declared.Verdict.TheVariants.{Passes, Refuses}
use Rattle.model.specs.Rows.{table_row, record_row, no_row, row_table, row_at, row_of, due}
use Rattle.model.specs.Loads.{State, file_list, with_internal, changed}
use Rattle.model.specs.Rules.{Result, went, failed, Rule, thence, ◌>>=◌, ◌>>◌, judged, unless, is_query, rule_c, due_row}
use Rattle.model.specs.Rules.{rule_d, tag_spot, room_in, room_of, rule_e, length_ok, rule_f, record_done}
use Rattle.model.specs.Order.{spannable}
use Rattle.theorem_cutting.specs.Bytewise.{Part, between, opened, awaited, started, behind, judged_head, begun}
use Rattle.theorem_cutting.specs.Bytewise.{Misses, shut}
use Rattle.theorem_cutting.specs.Contents.{Each, none, more}
use Rattle.theorem_cutting.proofs.Values.{Closed, opened_misses}
use Rattle.model.proofs.Laws.{length_most}
use Rattle.theorem_cutting.proofs.Bridge.{passes_true}
use Rattle.lists.specs.Truth.{never}

-- the three things that a whole header comes to: an error; an open value; a value that is awaited, of at most 64 bytes
pub data Begins (capacity : ℕ) (h : Head) : Result Part → Type 0 where
  fails : (w : ℕ) (s : State) → Begins capacity h (failed w s)
  opens : (s : State) → spannable h.tag ≡ true → Misses s.load.running.pending h.len
      → Begins capacity h (went between s)
  awaits : (row : ℕ) (s : State) → spannable h.tag ≡ false → h.len ≤ 64 → Closed s
      → Begins capacity h (awaited capacity row h.len s)

-- what every entry of a list has, each has that is got from it
each_get : {A : Type 0} (P : A → Type 0) {xs : List A} → Each P xs → (i : ℕ) (d : A) → P d → P (get_or xs i d)
each_get P none i d h = h
each_get P (more p ps) zero d h = p
each_get P (more p ps) (suc i) d h = each_get P ps i d h

abbrev Short : Row → Type 0
Short x = x.spans ≡ false → x.most ≤ 64

short_spans : (x : Row) → x.spans ≡ true → Short x
short_spans x e f = absurd (never (sym f ∙ e))

rows_short : Each Short row_table
unfolding row_table
rows_short =
    more (λ e. lit≤ tt)
    (more (λ e. lit≤ tt) (more (λ e. lit≤ tt) (more (λ e. lit≤ tt) (more (short_spans table_row refl)
    (more (λ e. lit≤ tt)
    (more (λ e. lit≤ tt)
    (more (λ e. lit≤ tt)
    (more (λ e. lit≤ tt) (more (λ e. lit≤ tt) (more (short_spans record_row refl) none))))))))))

-- a value that may not run on has at most 64 bytes
row_short : (row : ℕ) → (row_at row).spans ≡ false → (row_at row).most ≤ 64
unfolding row_at
row_short row e = each_get Short rows_short (row - 1) no_row (λ q. lit≤ tt) e

not_record : (row : ℕ) → (row_at row).spans ≡ false → eqb row 11 ≡ false
not_record row e = go (eqb row 11) refl
  where
    go : (b : Bool) → eqb row 11 ≡ b → b ≡ false
    go true q =
        absurd (never (sym (subst (λ (r : ℕ). (row_at r).spans ≡ false) (eqb-true row 11 q) e) ∙ unfold row_at row_table
        in refl))
    go false q = refl

room_most : (x : Bool) (v : Verdict) (most room : ℕ) → x ≡ false → cond x v (Passes most) ≡ Passes room → room ≡ most
room_most true v most room e q = absurd (never (sym e))
room_most false v most room e q = cc

pub refuses_not : (w n : ℕ) → Refuses w ≡ Passes n → ⊥
refuses_not w n e = never (ap passes e)
  where
    passes : Verdict → Bool
    passes (Passes n) = true
    passes (Refuses w) = false

-- rule d passes with the tag's row, which is due
pub due_row_lem : (x y : Bool) (w z r row : ℕ) → cond x (Refuses w) (cond y (Passes r) (Refuses z)) ≡ Passes row
    → (row ≡ r) × (y ≡ true)
due_row_lem true y w z r row q = absurd (refuses_not w row q)
due_row_lem false true w z r row q = (cc, refl)
due_row_lem false false w z r row q = absurd (refuses_not z row q)

module _ (capacity : ℕ) (h : Head) where
  by_test : (x : Bool) (w : ℕ) (s s' : State) (f : Rule Part) → (x ≡ false → Begins capacity h (f s'))
      → Begins capacity h (thence {A = ℕ} (cond x (failed w s) (went 0 s')) (λ a. f))
  by_test true w s s' f k = fails w s
  by_test false w s s' f k = k refl

  by_judged : (v : Verdict) (s : State) (f : ℕ → Rule Part) → ((n : ℕ) → v ≡ Passes n → Begins capacity h (f n s))
      → Begins capacity h (thence (judged v s) f)
  by_judged (Passes n) s f k = k n refl
  by_judged (Refuses w) s f k = fails w s

  opened_left : (row room len : ℕ) (s : State) → length_ok row room len ≡ true
      → Misses (opened row h.tag len s).load.running.pending len
  unfolding opened record_done
  opened_left row room zero s ok = shut
  opened_left row room (suc n) s ok = opened_misses row room h.tag n ok

  by_spans : (row room : ℕ) (x : Bool) (s : State) → row ≡ row_of h.tag → (row_at row).spans ≡ x
      → length_ok row room h.len ≡ true
      → room_of (file_list s.load) row h.tag ≡ Passes room → Closed s
      → Begins capacity h (cond x (went between (opened row h.tag h.len s)) (awaited capacity row h.len s))
  by_spans row room true s e q ok r c =
      opens _ (subst (λ (i : ℕ). (row_at i).spans ≡ true) e q) (opened_left row room h.len s ok)
  by_spans row room false s e q ok r c =
      let m : room ≡ (row_at row).most = room_most (eqb row 11) (room_in (tag_spot (file_list s.load) h.tag))
      (row_at row).most room (not_record row q) (unfold room_of in r) in
      let l : h.len ≤ room = length_most row room h.len ok in
      let t : (row_at row).most ≤ 64 = row_short row q in
      awaits row s (subst (λ (i : ℕ). (row_at i).spans ≡ false) e q) (omega arith) c

  from_f_lem : (row room : ℕ) (s : State) → row ≡ row_of h.tag → room_of (file_list s.load) row h.tag ≡ Passes room
      → Closed s
      → Begins capacity h ((rule_f row room h.len >> started capacity row h) s)
  unfolding rule_f started
  from_f_lem row room s e r c =
      by_judged (unless (length_ok row room h.len) 0x6700) s _
      (λ n q. by_spans row room (row_at row).spans s e refl (passes_true (length_ok row room h.len) 0x6700 n q) r c)

  from_e_lem : (row : ℕ) (s : State) → row ≡ row_of h.tag → Closed s
      → Begins capacity h ((rule_e row h.tag >>= λ room. (rule_f row room h.len >> started capacity row h)) s)
  unfolding rule_e
  from_e_lem row s e c = by_judged (room_of (file_list s.load) row h.tag) s _ (λ room r. from_f_lem row room s e r c)

  from_d_lem : (s : State) → Closed s → Begins capacity h (judged_head capacity h s)
  unfolding rule_d due_row
  from_d_lem s c =
      by_judged (due_row s.load.running.rows s.load.running.last h.tag) s _
      (λ row q. from_e_lem row s (due_row_lem (eqb (row_of h.tag) 0)
      (due s.load.running.rows s.load.running.last (row_of h.tag) h.tag) 0x6A88 0x6985
      (row_of h.tag) row q).0 c)

  -- a whole header
  pub begins_so : (s : State) → Closed s → Begins capacity h (begun capacity h s)
  unfolding begun behind rule_c
  begins_so s c =
      by_test (is_query h.tag) 0x6A80 s s (rule_c >> judged_head capacity h)
      (λ q. by_test (eqb s.load.running.internal 0xA5) 0x6985 s (changed (with_internal 0x5A) s)
      (judged_head capacity h) (λ g. from_d_lem _ c))

  -- a query behind data byte 0, or at it
  pub begun_query : (s : State) → is_query h.tag ≡ true → begun capacity h s ≡ failed 0x6A80 s
  unfolding begun behind
  begun_query s q = rw q
