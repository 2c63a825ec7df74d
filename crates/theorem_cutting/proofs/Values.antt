-- A value that may not run on: there whole, it is kept; cut short, the walk stands in it. And what rules d to f have
-- then said.
use Prim.Native.Nat.{ℕ, zero, suc, ◌-◌, ◌%◌, ◌≤◌, ◌<◌}
use mathlib.Core.Path.{◌≡◌, refl, sym, ap, ◌∙◌, subst}
use mathlib.Core.Bool.{Bool, true, false, ◌&&◌}
use mathlib.Core.List.{List, [], ◌∷◌, ◌++◌, append-nil, append_assoc}
use native.Mathlib.Omega.{arith}
use native.Mathlib.Nat.{suc-sub-suc, sub-zero}
use lib.Dec.{eqb, leb, lit≤}
use lib.ListN.{length, take, drop, take-append-drop}
use lib.Seq.{length-take-le}
use borrow.Author.Tests.{leb-true, eqb-true}
use Rattle.lists.specs.Choice.{by_cond}
use Rattle.model.specs.declared.Open.{Open}
use Rattle.model.specs.declared.Open.TheVariants.{Shut}
use Rattle.model.specs.Rows.{row_at, row_table}
use Rattle.model.specs.Loads.{State}
use Rattle.model.specs.Rules.{went, failed, Rule, thence, length_ok, startup_ok, startup, kept, opened_as}
use Rattle.theorem_cutting.specs.Bytewise.{value, ending, awaited, step, run, at_end, Misses, table, stored}
use Rattle.theorem_cutting.proofs.Opened.{Leaves}
use Rattle.lists.specs.Truth.{and_l, and_r}

-- the last byte of a value, and those before
pub value_whole : (capacity row n : ℕ) (v u rest : List ℕ) (s : State) → length v ≡ suc n
    → run capacity (v ++ rest) (value row n u) s ≡ thence (ending capacity row (u ++ v) s) (λ p. run capacity rest p)
unfolding run step
value_whole capacity row n [] u rest s h = absurd (omega arith)
value_whole capacity row zero (b ∷ []) u rest s h = refl
value_whole capacity row (suc n) (b ∷ []) u rest s h = absurd (omega arith)
value_whole capacity row zero (b ∷ c ∷ v) u rest s h = absurd (omega arith)
value_whole capacity row (suc n) (b ∷ c ∷ v) u rest s h =
    value_whole capacity row n (c ∷ v) (u ++ (b ∷ [])) rest s (omega arith) ∙ rw append_assoc

pub value_short : (capacity row n : ℕ) (v u : List ℕ) (s : State) → length v ≤ n
    → run capacity v (value row n u) s ≡ went (value row (n - length v) (u ++ v)) s
unfolding run step
value_short capacity row n [] u s h = rw (append-nil, sub-zero)
value_short capacity row zero (b ∷ v) u s h = absurd (omega arith)
value_short capacity row (suc n) (b ∷ v) u s h =
    value_short capacity row n v (u ++ (b ∷ [])) s (omega arith) ∙ rw (append_assoc, suc-sub-suc)

-- a value that is awaited and there
pub awaited_whole : (capacity row len : ℕ) (rest : List ℕ) (s : State) → len ≤ length rest
    → thence (awaited capacity row len s) (λ p. run capacity rest p)
    ≡ thence (ending capacity row (take len rest) s) (λ p. run capacity (drop len rest) p)
unfolding awaited
awaited_whole capacity row zero rest s h = refl
awaited_whole capacity row (suc n) rest s h =
    ap (λ (l : List ℕ). run capacity l (value row n []) s) (sym (take-append-drop (suc n) rest))
    ∙ value_whole capacity row n (take (suc n) rest) [] (drop (suc n) rest) s (length-take-le (suc n) rest h)

pub awaited_short : {B : Type 0} (k : Rule B) (capacity row len : ℕ) (rest : List ℕ) (s : State) → length rest < len
    → thence (thence (awaited capacity row len s) (λ p. run capacity rest p)) (at_end k) ≡ failed 0x6A80 s
unfolding awaited
awaited_short k capacity row zero rest s h = absurd (omega arith)
awaited_short k capacity row (suc n) rest s h = rw (value_short capacity row n rest [] s (omega arith))

-- what is kept opens nothing
abbrev pub Closed : State → Type 0
Closed s = s.load.running.pending ≡ Shut

pub kept_closed : (capacity row : ℕ) (v : List ℕ) (s : State) → Closed s → Leaves Closed (kept capacity row v s)
unfolding kept startup
kept_closed capacity row v s e =
    by_cond (λ (m : Rule ℕ). Leaves Closed (m s)) (eqb row 2) (λ q. e)
    (λ q. by_cond (λ (m : Rule ℕ). Leaves Closed (m s)) (eqb row 3)
    (λ f. by_cond (Leaves Closed) (startup_ok v) (λ g. by_cond (Leaves Closed) (leb (suc capacity) 6) (λ i. tt)
    (λ i. e)) (λ g. tt))
    (λ f. by_cond (λ (m : Rule ℕ). Leaves Closed (m s)) (eqb row 4) (λ g. e) (λ g. e)))

-- the parts of rule f, and of a conjunction
pub length_least : (row room len : ℕ) → length_ok row room len ≡ true → (row_at row).least ≤ len
length_least row room len h = leb-true (row_at row).least len
    (and_l _ (leb len room) (and_l _ (eqb (len % (row_at row).step) 0) h))

length_step : (row room len : ℕ) → length_ok row room len ≡ true → eqb (len % (row_at row).step) 0 ≡ true
length_step row room len h = and_r (leb (row_at row).least len && leb len room) _ h

-- '3100' is not empty, and holds whole descriptors
table_some_lem : (row room : ℕ) → row ≡ 5 → length_ok row room 0 ≡ true → ⊥
unfolding row_at row_table
table_some_lem row room e h = let l : 18 ≤ 0 = subst (λ (r : ℕ). (row_at r).least ≤ 0) e (length_least row room 0 h) in
    omega arith

table_even : (row room len : ℕ) → row ≡ 5 → length_ok row room len ≡ true → len % 18 ≡ 0
unfolding row_at row_table
table_even row room len e h = eqb-true (len % 18) 0 (subst (λ (r : ℕ). eqb (len % (row_at r).step) 0 ≡ true) e
    (length_step row room len h))

pub not_table : (row room : ℕ) → length_ok row room 0 ≡ true → eqb row 5 ≡ false
not_table row room h = go (eqb row 5) refl
  where
    go : (b : Bool) → eqb row 5 ≡ b → b ≡ false
    go true q = absurd (table_some_lem row room (eqb-true row 5 q) h)
    go false q = refl

pub opened_misses : (row room tag n : ℕ) → length_ok row room (suc n) ≡ true
    → Misses (opened_as row tag (suc n)) (suc n)
opened_misses row room tag n h =
    by_cond (λ (o : Open). Misses o (suc n)) (eqb row 5)
    (λ q. let e : suc n % 18 ≡ 0 = table_even row room (suc n) (eqb-true row 5 q) h in
    table {held = 0} {n = n} (lit≤ tt) (omega arith))
    (λ q. stored)
