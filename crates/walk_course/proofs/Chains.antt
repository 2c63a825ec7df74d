-- What each verdict makes of the rest of a grouping's rules.
use Prim.Native.Nat.{ℕ, ◌+◌, ◌-◌, ◌≤◌}
use mathlib.Core.Path.{◌≡◌, refl, subst}
use mathlib.Core.Bool.{true, false, not, ◌&&◌}
use mathlib.Core.List.{List}
use lib.Dec.{leb, eqb, ltb}
use lib.ListN.{length, drop, length-drop}
use Rattle.model.specs.declared.Head.{Head}
use Rattle.model.specs.declared.Verdict.TheVariants.{Passes, Refuses}
use Rattle.model.specs.Rows.{row_at, due}
use Rattle.model.specs.Loads.{State, file_list, with_internal, changed}
use Rattle.model.specs.Rules.{Result, failed, length_ok, room_of, due_row, rule_d, rule_e, rule_f, rule_g, rule_h, spanned}
use Rattle.model.specs.Rules.{whole}
use borrow.Author.Tests.{eq-eqb, ne_eqb, ltb-false}
use Rattle.model.specs.Rules.{thence, is_query, query, rule_b, rule_c}
use native.Mathlib.Omega.{arith}
use Rattle.lists.specs.Choice.{by_cond}
use Rattle.lists.specs.Bytes.{byte_at, word_at}
use Rattle.model.specs.declared.Header.{Header}
use Rattle.model.specs.declared.Header.TheVariants.{Torn, Whole}
use Rattle.model.specs.Header.{header_of, long_form}
use Rattle.model.specs.Rules.{Rule, alone_at_start, bit1, bit8, challenged, rule_a, grouping}
use Rattle.theorem_sound.specs.Keeps.{Ends}
use Rattle.model.specs.declared.Loading.{Loading}
use Rattle.walk_course.specs.declared.Course.{Course}
use Rattle.walk_course.specs.declared.Course.TheVariants.{Keeps, Lays, Feeds, Asked, Failed}
use Rattle.walk_course.specs.declared.Step.{Step}
use Rattle.walk_course.specs.Steps.{on, ended_as, Judges}
use Rattle.model.specs.Stages.{from_f, from_e, from_d, from_c, from_b}

module _ (capacity row room : ℕ) (h : Head) (bytes : List ℕ) (s : State) where
  pub f_refuses : length_ok row room h.len ≡ false → from_f capacity row room h bytes s ≡ failed 0x6700 s
  unfolding rule_f
  f_refuses e = rw e

  pub f_spans : length_ok row room h.len ≡ true → (row_at row).spans ≡ true
      → from_f capacity row room h bytes s ≡ spanned row h (drop h.size bytes) s
  unfolding rule_f rule_g rule_h
  f_spans e g = rw (e, g)

  pub f_whole : length_ok row room h.len ≡ true → (row_at row).spans ≡ false
      → leb h.len (length bytes - h.size) ≡ true
      → from_f capacity row room h bytes s ≡ whole capacity row h (drop h.size bytes) s
  unfolding rule_f rule_g rule_h
  f_whole e g q = rw (e, g, q)

  pub f_cut : length_ok row room h.len ≡ true → (row_at row).spans ≡ false
      → leb h.len (length bytes - h.size) ≡ false
      → from_f capacity row room h bytes s ≡ failed 0x6A80 s
  unfolding rule_f rule_g
  f_cut e g q = rw (e, g, q)

module _ (capacity row : ℕ) (h : Head) (bytes : List ℕ) (s : State) where
  pub e_passes : (room : ℕ) → room_of (file_list s.load) row h.tag ≡ Passes room
      → from_e capacity row h bytes s ≡ from_f capacity row room h bytes s
  unfolding rule_e
  e_passes room e = rw e

  pub e_refuses : (w : ℕ) → room_of (file_list s.load) row h.tag ≡ Refuses w
      → from_e capacity row h bytes s ≡ failed w s
  unfolding rule_e
  e_refuses w e = rw e

module _ (capacity : ℕ) (h : Head) (bytes : List ℕ) (s : State) where
  pub d_passes : (row : ℕ) → due_row s.load.running.rows s.load.running.last h.tag ≡ Passes row
      → from_d capacity h bytes s ≡ from_e capacity row h bytes s
  unfolding rule_d
  d_passes row e = rw e

  pub d_refuses : (w : ℕ) → due_row s.load.running.rows s.load.running.last h.tag ≡ Refuses w
      → from_d capacity h bytes s ≡ failed w s
  unfolding rule_d
  d_refuses w e = rw e

  pub c_refuses : s.load.running.internal ≡ 0xA5 → from_c capacity h bytes s ≡ failed 0x6985 s
  unfolding rule_c
  c_refuses e = rw (eq-eqb _ _ e)

  pub c_moves : (s.load.running.internal ≡ 0xA5 → ⊥)
      → from_c capacity h bytes s ≡ from_d capacity h bytes (changed (with_internal 0x5A) s)
  unfolding rule_c
  c_moves e = rw (ne_eqb _ _ e)

module _ (capacity n p1 : ℕ) (h : Head) (bytes : List ℕ) (s : State) where
  pub b_other : is_query h.tag ≡ false → from_b capacity n p1 h bytes s ≡ from_c capacity h bytes s
  unfolding rule_b
  b_other e = rw e

  pub b_query : is_query h.tag ≡ true → from_b capacity n p1 h bytes s
      ≡ thence (query n p1 bytes h s) (λ a. from_c capacity h bytes)
  unfolding rule_b
  b_query e = rw e

-- a query never goes on
pub query_ends : (n p1 : ℕ) (bytes : List ℕ) (h : Head) (s : State)
    → Ends (λ (a : ℕ) (t : State). ⊥) (λ t. Unit {0}) (query n p1 bytes h s)
unfolding query challenged
query_ends n p1 bytes h s =
    by_cond P (alone_at_start n bytes h)
    (λ e. by_cond P (bit1 p1 && not (bit8 p1))
    (λ f. by_cond P (eqb h.tag 0x9484)
    (λ g. by_cond P (eqb s.load.running.internal 0xCC && due s.load.running.rows
    s.load.running.last 1 0x9484) (λ i. tt) (λ i. tt)) (λ g. tt))
    (λ f. tt))
    (λ e. tt)
  where
    P : Result ℕ → Type 0
    P r = Ends (λ (a : ℕ) (t : State). ⊥) (λ t. Unit {0}) r

-- so what it ends with is the grouping's end
abbrev Stopped : Result ℕ → Type 0
Stopped q = Ends (λ (a : ℕ) (t : State). ⊥) (λ t. Unit {0}) q

pub query_stops : (capacity : ℕ) (r : Step) (d : List ℕ) (at : ℕ) (l : Loading) (a : List ℕ) (q : Result ℕ)
    (k : ℕ → Rule (List ℕ))
    → ended_as r.course (on r.running l a) ≡ q → Stopped q → Judges capacity r d at l a (thence q k)
query_stops capacity r d at l a q k e n = go r.course refl (rw e n)
  where
    go : (c : Course) → r.course ≡ c → Stopped (ended_as c (on r.running l a))
        → Judges capacity r d at l a (thence q k)
    go (Keeps row start end) f z = absurd z
    go (Lays to start end) f z = absurd z
    go (Feeds j) f z = absurd z
    go (Asked t) f z = record { comes = rw (← e, f); ahead = rw f tt }
    go (Failed w) f z = record { comes = rw (← e, f); ahead = rw f tt }

module _ (capacity n p1 : ℕ) (bytes : List ℕ) (s : State) where
  pub a_whole : (h : Head) → header_of bytes ≡ Whole h → grouping capacity n p1 bytes s ≡ from_b capacity n p1 h bytes s
  unfolding grouping rule_a
  a_whole h e = rw e

  pub a_torn : header_of bytes ≡ Torn → grouping capacity n p1 bytes s ≡ failed 0x6A80 s
  unfolding grouping rule_a
  a_torn e = rw e

-- a whole header's bytes are there
abbrev Fits : List ℕ → Header → Type 0
Fits b Torn = Unit {0}
Fits b (Whole h) = h.size ≤ length b

header_fits : (b : List ℕ) → Fits b (header_of b)
unfolding header_of long_form
header_fits b =
    by_cond (Fits b) (ltb (length b) 3) (λ e. tt)
    (λ e. by_cond (Fits b) (eqb (byte_at b 2) 0xFF)
    (λ f. by_cond (Fits b) (ltb (length b) 5) (λ g. tt)
    (λ g. by_cond (Fits b) (eqb (word_at b 3) 0xFFFF) (λ i. tt) (λ i. ltb-false (length b) 5 g)))
    (λ f. ltb-false (length b) 3 e))

pub header_within : (d : List ℕ) (at : ℕ) (h : Head) → at ≤ length d → header_of (drop at d) ≡ Whole h
    → at + h.size ≤ length d
header_within d at h l e =
    let f : h.size ≤ length (drop at d) = subst (Fits (drop at d)) e (header_fits (drop at d)) in
    let g : h.size ≤ length d - at = rw (← length-drop at d) f in
    omega arith

-- a header has bytes
abbrev HasSize : Header → Type 0
HasSize Torn = Unit {0}
HasSize (Whole h) = 1 ≤ h.size

header_sized : (b : List ℕ) → HasSize (header_of b)
unfolding header_of long_form
header_sized b =
    by_cond HasSize (ltb (length b) 3) (λ e. tt)
    (λ e. by_cond HasSize (eqb (byte_at b 2) 0xFF)
    (λ f. by_cond HasSize (ltb (length b) 5) (λ g. tt)
    (λ g. by_cond HasSize (eqb (word_at b 3) 0xFFFF) (λ i. tt) (λ i. omega arith)))
    (λ f. omega arith))

pub head_sized : (b : List ℕ) (h : Head) → header_of b ≡ Whole h → 1 ≤ h.size
head_sized b h e = subst HasSize e (header_sized b)
