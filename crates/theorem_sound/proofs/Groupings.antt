-- Rules a to h keep sound: a grouping read where nothing is open.
use Prim.Native.Nat.{ℕ, ◌-◌, ◌≤◌}
use mathlib.Core.Path.{◌≡◌, refl, ap, sym, subst}
use mathlib.Core.Bool.{true, false}
use mathlib.Core.List.{List}
use lib.Dec.{eqb, ltb}
use lib.ListN.{length, take, drop}
use native.Mathlib.Omega.{arith}
use borrow.Author.Tests.{le-leb}
use Rattle.lists.specs.Bytes.{padded}
use Rattle.lists.specs.Choice.{by_cond}
use Rattle.model.specs.declared.Open.{Open}
use Rattle.model.specs.declared.Open.TheVariants.{Shut, Table, Record}
use Rattle.model.specs.declared.Head.{Head}
use Rattle.model.specs.Rows.{row_at, secret_room}
use Rattle.model.specs.Loads.{State, file_list, changed, with_taken, with_open}
use Rattle.model.specs.Rules.{Result, went, Rule, ◌>>◌, does, startup_ok, startup, kept, opened_as, spanned, whole}
use Rattle.model.specs.Rules.{rule_h}
use Rattle.model.specs.Command.{is_shut}
use Rattle.theorem_sound.specs.Keeps.{Ends, Ruled}
use Rattle.theorem_sound.proofs.Ends.{then_ends}
use Rattle.theorem_sound.proofs.Inside.{InsideOf, Steady}
use Rattle.theorem_sound.proofs.Changes.{row_taken, secret_kept, table_begun, record_begun}
use Rattle.theorem_sound.proofs.Feeding.{InsideWith}
use Rattle.theorem_sound.proofs.Feeds.{Going, Walks, table_some, fed_walks, shut_some, taken_length}
use Rattle.theorem_sound.proofs.RowFacts.{by_span, secret_most, room_most, due_untaken, table_length}
use Rattle.theorem_sound.proofs.RowFacts.{record_room_lem}
use Rattle.model.proofs.Laws.{length_most}

-- a state with nothing open
pub record Closed (k : ℕ) (s : State) : Type 0 where
  pub inside : InsideWith Shut s
  pub shut : s.load.running.pending ≡ Shut
  pub area : length s.area ≡ k

pub closed_steady : (k : ℕ) (s : State) → Closed k s → Steady k s
closed_steady k s c = record {
  inside = subst (λ (o : Open). InsideWith o s) (sym c.shut)
      c.inside;
  some = shut_some _ c.shut;
  area = c.area;
}

pub shut_is : (o : Open) → is_shut o ≡ true → o ≡ Shut
shut_is Shut e = refl
shut_is (Table held missing) e = cc
shut_is (Record tag written missing) e = cc

pub steady_closed : (k : ℕ) (s : State) → Steady k s → is_shut s.load.running.pending ≡ true → Closed k s
steady_closed k s y e =
    let q = shut_is s.load.running.pending e in
    record { inside = subst (λ (o : Open). InsideWith o s) q y.inside; shut = q; area = y.area }

closed_walks : (k : ℕ) (left : List ℕ) (s : State) → Closed k s → Walks k left s
closed_walks k left s c = record { steady = closed_steady k s c; shut = λ l. ap is_shut c.shut }

-- any row is taken
pub closed_taken : (k row : ℕ) (s : State) → 1 ≤ row → row ≤ 11 → Closed k s → Closed k (changed (with_taken row) s)
closed_taken k row s a b c = record { inside = row_taken row a b c.inside; shut = c.shut; area = c.area }

-- h, content that is whole
startup_closed : (k capacity : ℕ) (v : List ℕ) (s : State) → Closed k s
    → Ends (λ a t. Closed k t) (Steady k) (startup capacity v s)
unfolding startup
startup_closed k capacity v s c =
    by_cond (λ (r : Result ℕ). Ends (λ a t. Closed k t) (Steady k) r) (startup_ok v)
    (λ e. by_cond (λ (r : Result ℕ). Ends (λ a t. Closed k t) (Steady k) r) (ltb capacity 6)
    (λ f. closed_steady k s c)
    (λ f. record { inside = c.inside; shut = c.shut; area = c.area }))
    (λ e. closed_steady k s c)

kept_closed : (k capacity row : ℕ) (v : List ℕ) (s : State) → 1 ≤ row → row ≤ 11 → (row_at row).spans ≡ false
    → length v ≤ (row_at row).most
    → Closed k s → Ends (λ a t. Closed k t) (Steady k) (kept capacity row v s)
unfolding kept
kept_closed k capacity row v s a b p h c =
    by_cond (λ (m : Rule ℕ). Ends (λ a t. Closed k t) (Steady k) (m s)) (eqb row 2)
    (λ e. record { inside = c.inside; shut = c.shut; area = c.area })
    (λ e. by_cond (λ (m : Rule ℕ). Ends (λ a t. Closed k t) (Steady k) (m s)) (eqb row 3)
    (λ f. startup_closed k capacity v s c)
    (λ f. by_cond (λ (m : Rule ℕ). Ends (λ a t. Closed k t) (Steady k) (m s)) (eqb row 4)
    (λ g. record { inside = c.inside; shut = c.shut; area = c.area })
    (λ g. let l : length v ≤ secret_room = omega (arith, secret_most row a b p e f g) in
    record {
      inside = secret_kept (row - 6) (record { bytes = padded 64 v; len = length v }) l
          c.inside;
      shut = c.shut;
      area = c.area;
    })))

pub whole_walks : (k capacity row : ℕ) (h : Head) (bytes : List ℕ) (s : State) → 1 ≤ row → row ≤ 11
    → (row_at row).spans ≡ false → h.len ≤ (row_at row).most
    → Closed k s → Going k (whole capacity row h bytes s)
unfolding whole
whole_walks k capacity row h bytes s a b p l c =
    then_ends (λ (a : ℕ) (t : State). Closed k t) (λ (left : List ℕ) (t : State). Walks k left t) (Steady k)
    (kept capacity row (take h.len bytes) s) (λ a. does (changed (with_taken row)) >> went (drop h.len bytes))
    (kept_closed k capacity row (take h.len bytes) s a b p (omega (arith, taken_length h.len bytes)) c)
    (λ n t z. closed_walks k (drop h.len bytes) (changed (with_taken row) t) (closed_taken k row t a b z))

-- h, a value that spans: the state in which it is just open
abbrev pub opening : ℕ → Head → State → State
opening row h s = changed (λ l. with_open (opened_as row h.tag h.len) l.held l) s

-- it fits; a '3100' misses something, an 'ssnn' may be empty
pub record Opening (row : ℕ) (h : Head) (s : State) : Type 0 where
  pub inside : InsideOf (opening row h s).load
  pub some : table_some (opened_as row h.tag h.len) ≡ true

abbrev Opens : ℕ → ℕ → Head → State → ℕ → Type 0
Opens k room h s row = Closed k s → Ruled s h row room → Opening row h s

table_opens : (k room : ℕ) (h : Head) (s : State) → Opens k room h s 5
table_opens k room h s c r =
    let l = table_length (file_list s.load) h.tag room h.len r.roomed r.fitting in
    record {
      inside = table_begun h.len r.personal
          (due_untaken s.load.running.rows s.load.running.last h.tag r.row_due) l.1 l.2
          c.inside;
      some = le-leb 1 h.len l.0;
    }

record_opens : (k room : ℕ) (h : Head) (s : State) → Opens k room h s 11
record_opens k room h s c r =
    let p = record_room_lem (file_list s.load) h.tag room r.roomed in
    record {
      inside = record_begun h.tag h.len p.0 room r.personal p.1
          (length_most 11 room h.len r.fitting) c.inside;
      some = refl;
    }

pub spans_open : (k room : ℕ) (h : Head) (s : State) (row : ℕ) → (row_at row).spans ≡ true → Opens k room h s row
spans_open k room h s row e c r = by_span (Opens k room h s) (table_opens k room h s) (record_opens k room h s) row
    r.least r.most e c r

pub spanned_walks : (k room : ℕ) (h : Head) (bytes : List ℕ) (s : State) (row : ℕ) → (row_at row).spans ≡ true
    → Closed k s → Ruled s h row room
    → Going k (spanned row h bytes s)
unfolding spanned
spanned_walks k room h bytes s row e c r =
    let o = spans_open k room h s row e c r in
    fed_walks k bytes (opening row h s) o.some c.area o.inside

pub rule_h_walks : (k capacity row room : ℕ) (h : Head) (bytes : List ℕ) (s : State) → Closed k s → Ruled s h row room
    → Going k (rule_h capacity row h bytes s)
unfolding rule_h
rule_h_walks k capacity row room h bytes s c r =
    by_cond (λ (m : Rule (List ℕ)). Going k (m s)) (row_at row).spans
    (λ e. spanned_walks k room h bytes s row e c r)
    (λ e. whole_walks k capacity row h bytes s r.least r.most e
    (omega (
      arith,
      length_most row room h.len r.fitting,
      room_most (file_list s.load) h.tag room row r.least r.most e r.roomed,
    )) c)
