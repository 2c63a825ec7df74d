-- Rules a to h one after another: a grouping keeps sound, and so does the walk over groupings.
use Prim.Native.Nat.{ℕ, zero, suc, ◌-◌, ◌≤◌}
use mathlib.Core.Path.{◌≡◌, refl}
use mathlib.Core.Bool.{Bool, true, false, cond, not, ◌&&◌, ◌||◌}
use mathlib.Core.List.{List, [], ◌∷◌}
use lib.Dec.{eqb, leb}
use lib.ListN.{length, drop}
use native.Mathlib.Omega.{arith}
use borrow.Author.Tests.{eqb-false}
use Rattle.lists.specs.Choice.{by_cond}
use Rattle.model.specs.declared.Head.{Head}
use Rattle.model.specs.declared.Verdict.TheVariants.{Passes, Refuses}
use Rattle.model.specs.Rows.{row_at, row_of, due, mandatory_missing}
use Rattle.model.specs.Header.{header_of}
use Rattle.model.specs.Loads.{State, file_list, changed, with_internal, with_taken}
use Rattle.model.specs.Rules.{Result, Rule, thence, ◌>>◌, judged, unless, is_query, alone_at_start, bit1, bit8}
use Rattle.model.specs.Rules.{challenged, query, rule_a, rule_b, rule_c, due_row, rule_d, room_of, rule_e, length_ok, rule_f}
use Rattle.model.specs.Rules.{rule_g, fed, grouping}
use Rattle.model.specs.Command.{is_shut, walk, ready, the_end, command}
use Rattle.theorem_sound.specs.Keeps.{Ends}
use Rattle.lists.specs.Truth.{and_r}
use Rattle.theorem_sound.proofs.Ends.{then_ends, judged_then, head_then}
use Rattle.theorem_sound.proofs.Inside.{Staying, Steady}
use Rattle.theorem_sound.proofs.Changes.{begun, ended}
use Rattle.theorem_sound.proofs.Feeds.{Going, Walks, some_table, fed_walks}
use Rattle.theorem_sound.proofs.RowFacts.{row_of_limit}
use Rattle.theorem_sound.proofs.Groupings.{Closed, closed_steady, steady_closed, closed_taken, rule_h_walks}

-- b, a query: it is asked or fails, and takes row 1 at most
query_stops : (k : ℕ) (R : ℕ → State → Type 0) (n p1 : ℕ) (bytes : List ℕ) (h : Head) (s : State) → Closed k s
    → Ends R (Steady k) (query n p1 bytes h s)
unfolding query challenged
query_stops k R n p1 bytes h s c =
    by_cond (Ends R (Steady k)) (alone_at_start n bytes h)
    (λ e. by_cond (Ends R (Steady k)) (bit1 p1 && not (bit8 p1))
    (λ f. by_cond (Ends R (Steady k)) (eqb h.tag 0x9484)
    (λ g. by_cond (Ends R (Steady k)) (eqb s.load.running.internal 0xCC && due s.load.running.rows
    s.load.running.last 1 0x9484)
    (λ i. closed_steady k (changed (with_taken 1) s) (closed_taken k 1 s (omega arith) (omega arith) c))
    (λ i. closed_steady k s c))
    (λ g. closed_steady k s c))
    (λ f. closed_steady k s c))
    (λ e. closed_steady k s c)

-- d passes with the tag's row, which is due
due_row_both : (a b : Bool) (r n : ℕ) → cond a (Refuses 0x6A88) (cond b (Passes r) (Refuses 0x6985)) ≡ Passes n
    → (a ≡ false) × (b ≡ true) × (n ≡ r)
due_row_both true b r n e = (cc, cc, cc)
due_row_both false true r n e = (refl, refl, cc)
due_row_both false false r n e = (refl, cc, cc)

pub due_row_passes : (rows last tag n : ℕ) → due_row rows last tag ≡ Passes n
    → (1 ≤ n) × (n ≤ 11) × (due rows last n tag ≡ true)
unfolding due_row
due_row_passes rows last tag n e =
    let p = due_row_both (eqb (row_of tag) 0) (due rows last (row_of tag) tag) (row_of tag) n e in
    let z : row_of tag ≡ 0 → ⊥ = eqb-false (row_of tag) 0 p.0 in
    let q : n ≡ row_of tag = p.2 in
    (omega arith, omega (arith, row_of_limit tag), rw q p.1)

module _ {B : Type 0} (k : ℕ) (R : B → State → Type 0) (s : State) where
  b_then : (n p1 : ℕ) (bytes : List ℕ) (h : Head) (m : ℕ → Rule B) → Closed k s
      → Ends R (Steady k) (m 0 s) → Ends R (Steady k) (thence (rule_b n p1 bytes h s) m)
  unfolding rule_b
  b_then n p1 bytes h m c f =
      by_cond (λ (r : Result ℕ). Ends R (Steady k) (thence r m)) (is_query h.tag)
      (λ e. then_ends (λ (a : ℕ) (t : State). ⊥) R (Steady k) (query n p1 bytes h s) m
      (query_stops k (λ a t. ⊥) n p1 bytes h s c) (λ a t z. absurd z))
      (λ e. f)

  c_then : (m : ℕ → Rule B) → Steady k s → Ends R (Steady k) (m 0 (changed (with_internal 0x5A) s))
      → Ends R (Steady k) (thence (rule_c s) m)
  unfolding rule_c
  c_then m y f = by_cond (λ (r : Result ℕ). Ends R (Steady k) (thence r m)) (eqb s.load.running.internal 0xA5)
      (λ e. y) (λ e. f)

  d_then : (tag : ℕ) (m : ℕ → Rule B) → Steady k s
      → ((row : ℕ) → (1 ≤ row) × (row ≤ 11) × (due s.load.running.rows s.load.running.last row tag ≡ true)
      → Ends R (Steady k) (m row s))
      → Ends R (Steady k) (thence (rule_d tag s) m)
  unfolding rule_d
  d_then tag m y f =
      judged_then R (Steady k) (due_row s.load.running.rows s.load.running.last tag) s m y
      (λ n e. f n (due_row_passes s.load.running.rows s.load.running.last tag n e))

  e_then : (row tag : ℕ) (m : ℕ → Rule B) → Steady k s
      → ((room : ℕ) → room_of (file_list s.load) row tag ≡ Passes room → Ends R (Steady k) (m room s))
      → Ends R (Steady k) (thence (rule_e row tag s) m)
  unfolding rule_e
  e_then row tag m y f = judged_then R (Steady k) (room_of (file_list s.load) row tag) s m y f

  unless_then : (b : Bool) (w : ℕ) (m : ℕ → Rule B) → Steady k s
      → (b ≡ true → Ends R (Steady k) (m 0 s)) → Ends R (Steady k) (thence (judged (unless b w) s) m)
  unless_then true w m y f = f refl
  unless_then false w m y f = y

  f_then : (row room len : ℕ) (m : ℕ → Rule B) → Steady k s
      → (length_ok row room len ≡ true → Ends R (Steady k) (m 0 s))
      → Ends R (Steady k) (thence (rule_f row room len s) m)
  unfolding rule_f
  f_then row room len m y f = unless_then (length_ok row room len) 0x6700 m y f

  g_then : (row len left : ℕ) (m : ℕ → Rule B) → Steady k s → Ends R (Steady k) (m 0 s)
      → Ends R (Steady k) (thence (rule_g row len left s) m)
  unfolding rule_g
  g_then row len left m y f = unless_then ((row_at row).spans || leb len left) 0x6A80 m y (λ e. f)

-- where nothing is open, a grouping; then bytes are left only where nothing is open
pub grouping_walks : (k capacity n p1 : ℕ) (bytes : List ℕ) (s : State) → Closed k s
    → Going k (grouping capacity n p1 bytes s)
unfolding grouping rule_a
grouping_walks k capacity n p1 bytes s c =
    let R : List ℕ → State → Type 0 = λ left t. Walks k left t in
    let t : State = changed (with_internal 0x5A) s in
    let d : Closed k t = record { inside = begun c.inside; shut = c.shut; area = c.area } in
    let y : Steady k t = closed_steady k t d in
    head_then R (Steady k) (header_of bytes) s _ (closed_steady k s c)
    (λ h. b_then k R s n p1 bytes h _ c
    (c_then k R s _ (closed_steady k s c)
    (d_then k R t h.tag _ y
    (λ row r. e_then k R t row h.tag _ y
    (λ room e. f_then k R t row room h.len _ y
    (λ l. g_then k R t row h.len (length bytes - h.size) _ y
    (rule_h_walks k capacity row room h (drop h.size bytes) t d
    (record { least = r.0; most = r.1; personal = refl; row_due = r.2; roomed = e; fitting = l }))))))))

-- groupings end to end
pub walk_steady : (fuel k capacity n p1 : ℕ) (bytes : List ℕ) (s : State) → Walks k bytes s
    → Staying k (walk fuel capacity n p1 bytes s)
unfolding walk
walk_steady zero k capacity n p1 bytes s w = w.steady
walk_steady (suc fuel) k capacity n p1 [] s w = w.steady
walk_steady (suc fuel) k capacity n p1 (b ∷ bs) s w =
    then_ends (λ (left : List ℕ) (t : State). Walks k left t) (λ (a : ℕ) (t : State). Steady k t) (Steady k)
    (grouping capacity n p1 (b ∷ bs) s) (walk fuel capacity n p1)
    (grouping_walks k capacity n p1 (b ∷ bs) s (steady_closed k s w.steady (w.shut (omega arith))))
    (λ left t z. walk_steady fuel k capacity n p1 left t z)

-- the end: 'A5' only where nothing is open
pub the_end_steady : (k p1 : ℕ) (s : State) → Steady k s → Staying k (the_end p1 s)
unfolding the_end ready
the_end_steady k p1 s y =
    by_cond (λ (r : Result ℕ). Staying k r) (bit8 p1)
    (λ e. by_cond (λ (r : Result ℕ). Staying k r) (ready s)
    (λ f. let c = steady_closed k s y (and_r (not (mandatory_missing s.load.running.rows))
    (is_shut s.load.running.pending) f) in
    closed_steady k (changed (with_internal 0xA5) s)
    (record { inside = ended c.inside; shut = c.shut; area = c.area }))
    (λ f. y))
    (λ e. y)

pub command_steady : (k capacity p1 : ℕ) (bytes : List ℕ) (s : State) → Steady k s
    → Staying k (command capacity p1 bytes s)
unfolding command
command_steady k capacity p1 bytes s y =
    let R : ℕ → State → Type 0 = λ a t. Steady k t in
    then_ends (λ (left : List ℕ) (t : State). Walks k left t) R (Steady k) (fed bytes s)
    (λ left. walk (length left) capacity (length bytes) p1 left >> the_end p1)
    (fed_walks k bytes s (some_table s.load.running.pending y.some) y.area y.inside)
    (λ left t w. then_ends R R (Steady k) (walk (length left) capacity (length bytes) p1 left t) (λ a. the_end p1)
    (walk_steady (length left) k capacity (length bytes) p1 left t w)
    (λ a u z. the_end_steady k p1 u z))
