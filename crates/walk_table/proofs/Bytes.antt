-- Bytes of '3100' some at a time.
use Prim.Native.Nat.{ℕ, zero, suc, ◌+◌, ◌-◌, ◌≤◌, ◌<◌, min}
use mathlib.Core.Path.{◌≡◌, refl, ◌∙◌, subst}
use mathlib.Core.Bool.{true, false}
use mathlib.Core.List.{List, [], ◌∷◌, ◌++◌}
use native.Mathlib.Nat.{add-zero, sub-zero}
use native.Mathlib.Numerals.{add-one}
use native.Mathlib.Omega.{arith}
use lib.Dec.{eqb}
use lib.ListN.{length, set, take, drop, length-drop}
use lib.Seq.{take-suc, take-add, get_or-drop, length-take-le, drop-drop}
use Rattle.theorem_sound.specs.Keeps.{Ends}
use Rattle.theorem_sound.proofs.Inside.{Steady, fits_in}
use Rattle.theorem_sound.proofs.Opened.{table_facts}
use Rattle.theorem_sound.proofs.Feeding.{Misses, Fed, table_bytes_fed}
use borrow.Author.Tests.{ne_eqb, ltb-true}
use Rattle.lists.specs.Choice.{by_cond}
use Rattle.lists.specs.Truth.{and_l}
use Rattle.lists.specs.Over.{overwrite}
use Rattle.model.specs.declared.Loading.{Loading}
use Rattle.model.specs.declared.Descriptor.{Descriptor}
use Rattle.model.specs.declared.Open.{Open}
use Rattle.model.specs.declared.Open.TheVariants.{Shut, Table, Record}
use Rattle.model.specs.declared.Verdict.{Verdict}
use Rattle.model.specs.declared.Verdict.TheVariants.{Passes}
use Rattle.model.specs.Rows.{descriptor_size}
use Rattle.model.specs.Table.{admit_of, rules_ok}
use Rattle.model.specs.Loads.{State, with_open, with_progress, running_open, running_taken}
use Rattle.model.specs.Rules.{Result, went, asked, failed, thence, in_table, table_byte, table_bytes, table_done}
use Rattle.lists.specs.Bytes.{part, byte_at, zeros}
use Rattle.lists.specs.Least.{rest_least, part_least}
use Rattle.model.specs.Rules.{feeding, fed}
use Rattle.model.specs.declared.Running.{Running}
use Rattle.walk_course.specs.Steps.{state_of, missing_in}
use Rattle.walk_table.specs.Bytes.{table_run}

-- a descriptor in the table, which misses so much behind it
pub run_ends : (m : ℕ) (p : Running) → m ≡ 0 → table_run m p ≡ running_taken 5 (running_open Shut p)
unfolding table_run
run_ends m p e = rw e

pub run_goes_on : (m : ℕ) (p : Running) → (m ≡ 0 → ⊥) → table_run m p ≡ running_open (Table 0 m) p
unfolding table_run
run_goes_on zero p n = absurd (n refl)
run_goes_on (suc m) p n = refl

pub run_done : (m : ℕ) (l : Loading) (a : List ℕ)
    → table_done m (state_of l a) ≡ state_of (with_progress (table_run m l.running) (zeros 18) l) a
unfolding table_run table_done
run_done zero l a = refl
run_done (suc m) l a = refl

-- some bytes and then others
pub table_append : (xs ys : List ℕ) (s : State) → table_bytes (xs ++ ys) s
    ≡ thence (table_bytes xs s) (λ n. table_bytes ys)
unfolding table_bytes
table_append [] ys s = refl
table_append (x ∷ xs) ys s = go (in_table s.load.running.pending x s) (λ t. table_append xs ys t)
  where
    go : (r : Result ℕ) → ((t : State) → table_bytes (xs ++ ys) t ≡ thence (table_bytes xs t) (λ n. table_bytes ys))
        → thence r (λ a. table_bytes (xs ++ ys)) ≡ thence (thence r (λ a. table_bytes xs)) (λ n. table_bytes ys)
    go (went a t) h = h t
    go (asked q t) h = refl
    go (failed w t) h = refl

-- bytes that do not reach a descriptor's last are held
pub table_held : (xs : List ℕ) (l : Loading) (a : List ℕ) (h m : ℕ) → l.running.pending ≡ Table h m
    → h + length xs ≤ 17
    → table_bytes xs (state_of l a)
    ≡ went 0 (state_of (with_open (Table (h + length xs) (m - length xs)) (overwrite l.held h xs) l) a)
unfolding table_bytes table_byte overwrite
table_held [] l a h m e f = rw (add-zero h, sub-zero m, ← e)
table_held (x ∷ xs) l a h m e f =
    let n : eqb (h + 1) descriptor_size ≡ false = ne_eqb (h + 1) 18 (λ q. omega arith) in
    let p : h + 1 + length xs ≡ h + suc (length xs) = omega arith in
    let q : m - 1 - length xs ≡ m - suc (length xs) = omega arith in
    rw (e, n)
    (table_held xs (with_open (Table (h + 1) (m - 1)) (set l.held h x) l) a (h + 1) (m - 1) refl (omega arith)
    ∙ rw (p, q, add-one))

-- a descriptor that passes has room in the table
pub admitted_room : (d : Descriptor) (before : List Descriptor) (n : ℕ) → admit_of d before ≡ Passes n
    → length before < 31
unfolding admit_of rules_ok
admitted_room d before n =
    by_cond (λ (v : Verdict). v ≡ Passes n → length before < 31) (rules_ok d before)
    (λ e q. ltb-true (length before) 31 (and_l _ _ (and_l _ _ e)))
    (λ e q. let z : ◌≡◌ {A = ℕ} 0 1 = cc in absurd (omega arith))

-- a descriptor's last byte behind those that were held
pub table_last : (d : List ℕ) (at last m : ℕ) (s t : State) → at ≤ last → last < length d
    → t.load.running.pending ≡ Table 17 m
    → table_bytes (part d at (last - at)) s ≡ went 0 t
    → table_bytes (part d at (last + 1 - at)) s ≡ thence (table_byte 17 (m - 1) (byte_at d last) t) (λ a. went 0)
unfolding table_bytes
table_last d at last m s t h g o e =
    let k : last + 1 - at ≡ suc (last - at) = omega arith in
    let j : at + (last - at) ≡ last = omega arith in
    let x : last - at < length (drop at d) = rw length-drop (omega arith) in
    rw (k, take-suc (drop at d) (last - at) 0 x, table_append, e, get_or-drop at d (last - at) 0, j, o)

-- what fails on the way fails the whole
pub table_fails : (d : List ℕ) (at i end w : ℕ) (s t : State) → at ≤ i → i ≤ end
    → table_bytes (part d at (i - at)) s ≡ failed w t
    → table_bytes (part d at (end - at)) s ≡ failed w t
table_fails d at i end w s t h g e =
    let k : end - at ≡ (i - at) + (end - i) = omega arith in
    rw (k, take-add (i - at) (end - i) (drop at d), table_append, e)

-- bytes taken up to a place: the rest of them goes on from there
pub table_passes_on : (d : List ℕ) (at i end : ℕ) (s t : State) → at ≤ i → i ≤ end
    → table_bytes (part d at (i - at)) s ≡ went 0 t
    → table_bytes (part d at (end - at)) s ≡ table_bytes (part d i (end - i)) t
table_passes_on d at i end s t h g e =
    let k : end - at ≡ (i - at) + (end - i) = omega arith in
    let j : at + (i - at) ≡ i = omega arith in
    rw (k, take-add (i - at) (end - i) (drop at d), table_append, e, drop-drop (i - at) at d, j)

-- so much of the open '3100' is still missed
pub fed_on : (d : List ℕ) (at i m : ℕ) (s t : State) → at ≤ i → i ≤ length d → i - at ≤ m → Fed 0 m s
    → table_bytes (part d at (i - at)) s ≡ went 0 t → Fed 0 (m - (i - at)) t
fed_on d at i m s t h g f y e =
    let v = part d at (i - at) in
    let n : length v ≡ i - at = length-take-le (i - at) (drop at d) (rw length-drop (omega arith)) in
    rw (← n) (subst (Ends (λ a t. Fed 0 (m - length v) t) (Steady 0)) e (table_bytes_fed v 0 m s y (omega arith)))

-- what a state that misses bytes of '3100' tells
module _ (l : Loading) (m : ℕ) (y : Fed 0 m (state_of l [])) where
  pub open_facts : (held left : ℕ) → l.running.pending ≡ Table held left
      → (left ≡ m) × (held < 18) × (l.count ≤ 31) × (length l.files ≡ 31)
  open_facts held left e =
      let i = y.steady.inside in
      let f = subst (λ (o : Open). fits_in o l.running.rows l.count (take l.count l.files) ≡ true) e
      i.fits in
      (subst (Misses m) e y.misses, (table_facts l.running.rows l.count held left f).part, i.count, i.room)

  pub never_shut : l.running.pending ≡ Shut → 1 ≤ m → ⊥
  never_shut e h = let z : m ≡ 0 = subst (Misses m) e y.misses in omega arith

  pub never_record : (tag written left : ℕ) → l.running.pending ≡ Record tag written left → ⊥
  never_record tag written left e = subst (Misses m) e y.misses

-- an open '3100' takes what it misses, as far as the data goes
pub table_feeds : (d : List ℕ) (at h m n : ℕ) (s : State) → n ≡ min m (length d - at)
    → feeding (Table h m) (drop at d) s ≡ thence (table_bytes (part d at (at + n - at)) s)
    (λ k. went (drop (at + n) d))
table_feeds d at h m n s e =
    let k : at + n - at ≡ n = omega arith in
    let v : part d at n ≡ take m (drop at d) = rw e (part_least d at m) in
    let r : drop (at + n) d ≡ drop m (drop at d) = rw e (rest_least d at m) in
    rw (k, v, r)

pub fed_feeds : (d : List ℕ) (at n : ℕ) (l : Loading) (a : List ℕ)
    → Fed 0 (missing_in l.running.pending) (state_of l [])
    → n ≡ min (missing_in l.running.pending) (length d - at)
    → fed (drop at d) (state_of l a) ≡ thence (table_bytes (part d at (at + n - at)) (state_of l a))
    (λ k. went (drop (at + n) d))
unfolding fed table_bytes
fed_feeds d at n l a y e = go l.running.pending refl e
  where
    go : (o : Open) → l.running.pending ≡ o → n ≡ min (missing_in o) (length d - at)
        → feeding o (drop at d) (state_of l a) ≡ thence (table_bytes (part d at (at + n - at)) (state_of l a))
        (λ k. went (drop (at + n) d))
    go Shut q f =
        let z : n ≡ 0 = omega arith in
        let w : at + 0 - at ≡ 0 = omega arith in
        rw (z, w, add-zero at)
    go (Table h m) q f = table_feeds d at h m n (state_of l a) f
    go (Record tag w m) q f = absurd (never_record l (missing_in l.running.pending) y tag w m q)
