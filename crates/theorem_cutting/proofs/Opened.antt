-- A value that runs on: it takes its bytes one by one as it takes them at once, and after the last it is shut.
use Prim.Native.Nat.{ℕ, zero, suc, ◌+◌, ◌-◌, ◌%◌, ◌<◌}
use mathlib.Core.Path.{◌≡◌, refl, sym, ap, ◌∙◌}
use mathlib.Core.List.{List, [], ◌∷◌}
use native.Mathlib.Omega.{arith}
use native.Mathlib.Nat.{sub-zero, suc-sub-suc, add-zero}
use lib.Dec.{eqb}
use lib.ListN.{length, take, drop, set}
use borrow.Author.Tests.{eqb-true, eqb-false}
use Rattle.lists.specs.Choice.{by_cond}
use Rattle.lists.specs.Over.{over_then, over_none}
use Rattle.model.specs.declared.Descriptor.{Descriptor}
use Rattle.model.specs.declared.Loading.{Loading}
use Rattle.model.specs.declared.Open.{Open}
use Rattle.model.specs.declared.Open.TheVariants.{Shut, Table, Record}
use Rattle.model.specs.declared.Spot.{Spot}
use Rattle.model.specs.declared.Spot.TheVariants.{Nowhere, At}
use Rattle.model.specs.declared.Verdict.{Verdict}
use Rattle.model.specs.declared.Verdict.TheVariants.{Passes, Refuses}
use Rattle.model.specs.Rows.{descriptor_size}
use Rattle.model.specs.Table.{descriptor_of, admit_of}
use Rattle.model.specs.Loads.{State, file_list, with_open, changed}
use Rattle.model.specs.Rules.{Result, went, asked, failed, Rule, thence, described, table_done, record_done, table_byte}
use Rattle.model.specs.Rules.{table_bytes, in_table, tag_spot, laid, record_bytes, feeding, fed}
use Rattle.theorem_cutting.specs.Bytewise.{Part, between, open_byte, step, run, at_end, Misses, shut, table}
use Rattle.theorem_cutting.specs.Bytewise.{stored}

pub misses_none : (o : Open) → Misses o 0 → o ≡ Shut
misses_none Shut shut = refl
misses_none (Table _ _) h = elim h [ ]
misses_none (Record _ _ _) h = elim h [ ]

-- what a result that went on leaves in the state
abbrev pub Leaves : {A : Type 0} → (State → Type 0) → Result A → Type 0
Leaves P (went a s) = P s
Leaves P (asked t s) = Unit {0}
Leaves P (failed w s) = Unit {0}

-- the same, between groupings
abbrev pub Rests : (State → Type 0) → Result Part → Type 0
Rests P (went p s) = (p ≡ between) × P s
Rests P (asked t s) = Unit {0}
Rests P (failed w s) = Unit {0}

pub rests_then : (P : State → Type 0) (r : Result ℕ) → Leaves P r → Rests P (thence r (λ n. went between))
rests_then P (went n s) h = (refl, h)
rests_then P (asked t s) h = tt
rests_then P (failed w s) h = tt

-- what an open '3100' leaves open
data TableLeft : Open → ℕ → Type 0 where
  none : TableLeft Shut 0
  some : {held n : ℕ} → held < 18 → (held + suc n) % 18 ≡ 0 → TableLeft (Table held (suc n)) (suc n)

table_misses : {o : Open} {n : ℕ} → TableLeft o n → Misses o n
table_misses none = shut
table_misses (some h e) = table h e

abbrev Left : ℕ → State → Type 0
Left n s = TableLeft s.load.running.pending n

left_done : (n : ℕ) (s : State) → n % 18 ≡ 0 → Left n (table_done n s)
unfolding table_done
left_done zero s h = none
left_done (suc m) s h = some {held = 0} {n = m} (omega arith) (omega arith)

left_described : (v : Verdict) (d : Descriptor) (n : ℕ) (s : State) → n % 18 ≡ 0 → Leaves (Left n) (described v d n s)
left_described (Passes k) d n s h = left_done n _ h
left_described (Refuses w) d n s h = tt

left_more : (held n : ℕ) (bytes : List ℕ) (s : State) → held < 18 → (held + suc n) % 18 ≡ 0 → (held + 1 ≡ 18 → ⊥)
    → Left n (changed (with_open (Table (held + 1) n) bytes) s)
left_more held zero bytes s h e f = absurd (f (omega arith))
left_more held (suc n) bytes s h e f = some {held = held + 1} {n = n} (omega arith) (omega arith)

-- a byte of '3100'
left_byte : (held n b : ℕ) (s : State) → held < 18 → (held + suc n) % 18 ≡ 0 → Leaves (Left n) (table_byte held n b s)
unfolding table_byte
left_byte held n b s h e =
    by_cond (Leaves (Left n)) (eqb (held + 1) descriptor_size)
    (λ q. left_described (admit_of (descriptor_of (set s.load.held held b)) (file_list s.load)) _ n s
    (let f : held + 1 ≡ 18 = eqb-true (held + 1) 18 q in omega arith))
    (λ q. left_more held n (set s.load.held held b) s h e (eqb-false (held + 1) 18 q))

down : (n : ℕ) → suc n - 1 ≡ n
down n = omega arith

-- a byte of 'ssnn'
record_left : (tag written n : ℕ) (l : Loading) (area : List ℕ)
    → Misses (record_done tag written n (record { load = l; area = area })).load.running.pending n
unfolding record_done
record_left tag written zero l area = shut
record_left tag written (suc n) l area = stored

open_rests : (o : Open) (b n : ℕ) (s : State) → Misses o (suc n)
    → Rests (λ s'. Misses s'.load.running.pending n) (open_byte o b s)
unfolding record_bytes
open_rests o b n s (table {held} h e) =
    rw (down n) (rests_then (λ s'. Misses s'.load.running.pending n) (table_byte held n b s)
    (left_rests (table_byte held n b s) (left_byte held n b s h e)))
  where
    left_rests : (r : Result ℕ) → Leaves (Left n) r → Leaves (λ s'. Misses s'.load.running.pending n) r
    left_rests (went a s') k = table_misses k
    left_rests (asked t s') k = tt
    left_rests (failed w s') k = tt
open_rests o b n s (stored {tag} {written}) = (refl, rw (down n) (record_left tag (written + 1) n s.load _))

-- a byte of an open value: it then misses one less
pub step_rests : (capacity b n : ℕ) (s : State) → Misses s.load.running.pending (suc n)
    → Rests (λ s'. Misses s'.load.running.pending n) (step capacity between b s)
unfolding step
step_rests capacity b n s m = open_rests s.load.running.pending b n s m

-- fed at once and fed byte by byte
pub fed_shut : (bytes : List ℕ) (s : State) → s.load.running.pending ≡ Shut → fed bytes s ≡ went bytes s
unfolding fed
fed_shut bytes s e = ap (λ (o : Open). feeding o bytes s) e

fed_left : (o : Open) (n : ℕ) (bs : List ℕ) (s : State) → s.load.running.pending ≡ o → TableLeft o n
    → thence (table_bytes (take n bs) s) (λ m. went (drop n bs)) ≡ fed bs s
unfolding fed table_bytes
fed_left o n bs s e none = sym (ap (λ (x : Open). feeding x bs s) e)
fed_left o n bs s e (some h q) = sym (ap (λ (x : Open). feeding x bs s) e)

fed_after : (n : ℕ) (bs : List ℕ) (r : Result ℕ) → Leaves (Left n) r
    → thence (thence r (λ a. table_bytes (take n bs))) (λ m. went (drop n bs))
    ≡ thence (thence r (λ m. went between)) (λ p. fed bs)
fed_after n bs (went a s) h = fed_left s.load.running.pending n bs s refl h
fed_after n bs (asked t s) h = refl
fed_after n bs (failed w s) h = refl

laid_more : (x : Spot) (written b : ℕ) (v area : List ℕ)
    → laid x written (b ∷ v) area ≡ laid x (written + 1) v (laid x written (b ∷ []) area)
laid_more Nowhere written b v area = refl
laid_more (At base size) written b v area = over_then (b ∷ []) v area (base + written) (base + (written + 1))
    (omega arith)

-- what was open before does not matter to what a record's bytes leave open
pub done_over : (tag x n : ℕ) (o : Open) (l : Loading) (area : List ℕ)
    → record_done tag x n (record { load = with_open o l.held l; area = area })
    ≡ record_done tag x n (record { load = l; area = area })
unfolding record_done
done_over tag x zero o l area = refl
done_over tag x (suc n) o l area = refl

pub done_same : (tag x y m n : ℕ) (l : Loading) (a c : List ℕ) → x ≡ y → m ≡ n → a ≡ c
    → record_done tag x m (record { load = l; area = a }) ≡ record_done tag y n (record { load = l; area = c })
done_same tag x y m n l a c e f g = cc

record_more : (tag written n b : ℕ) (v : List ℕ) (s : State)
    → record_bytes tag written (suc (suc n)) (b ∷ v) s
    ≡ record_bytes tag (written + 1) (suc n) v
    (record_done tag (written + 1) (suc n)
    (record { load = s.load; area = laid (tag_spot (file_list s.load) tag) written (b ∷ []) s.area }))
unfolding record_bytes record_done
record_more tag written n b v s =
    done_same tag (written + suc (length v)) (written + 1 + length v) (suc (suc n) - suc (length v))
    (suc n - length v) s.load _ _ (omega arith) (suc-sub-suc (suc n) (length v))
    (laid_more (tag_spot (file_list s.load) tag) written b v s.area)
    ∙ sym (done_over tag (written + 1 + length v) (suc n - length v) (Record tag (written + 1) (suc n)) s.load _)

fed_record : (tag written n b : ℕ) (bs : List ℕ) (s : State)
    → went (drop n bs) (record_bytes tag written (suc n) (b ∷ take n bs) s)
    ≡ fed bs (record_bytes tag written (suc n) (b ∷ []) s)
unfolding fed record_bytes
fed_record tag written zero b bs s = unfold record_done in refl
fed_record tag written (suc n) b bs s =
    ap (went (drop (suc n) bs)) (record_more tag written n b (take (suc n) bs) s)
    ∙ rw (down (suc n)) (unfold record_done in refl)

fed_open : (o : Open) (b n : ℕ) (bs : List ℕ) (s : State) → s.load.running.pending ≡ o → Misses o (suc n)
    → feeding o (b ∷ bs) s ≡ thence (open_byte o b s) (λ p. fed bs)
unfolding table_bytes
fed_open o b n bs s e (table {held} h q) =
    ap (λ (x : Open). thence (thence (in_table x b s) (λ a. table_bytes (take n bs))) (λ m. went (drop n bs))) e
    ∙ rw (down n) (fed_after n bs (table_byte held n b s) (left_byte held n b s h q))
fed_open o b n bs s e (stored {tag} {written}) = fed_record tag written n b bs s

-- a byte of an open value first, and then the others
pub fed_step : (capacity b n : ℕ) (bs : List ℕ) (s : State) → Misses s.load.running.pending (suc n)
    → fed (b ∷ bs) s ≡ thence (step capacity between b s) (λ p. fed bs)
unfolding fed step
fed_step capacity b n bs s m = fed_open s.load.running.pending b n bs s refl m

pub laid_none : (x : Spot) (written : ℕ) (area : List ℕ) → laid x written [] area ≡ area
laid_none Nowhere written area = refl
laid_none (At base size) written area = over_none area (base + written)

record_none : (tag written n : ℕ) (s : State) → s.load.running.pending ≡ Record tag written (suc n)
    → record_bytes tag written (suc n) [] s ≡ s
unfolding record_bytes
record_none tag written n s e =
    done_same tag (written + 0) written (suc n - 0) (suc n) s.load _ _ (add-zero written) (sub-zero (suc n))
    (laid_none (tag_spot (file_list s.load) tag) written s.area)
    ∙ unfold record_done in ap (λ (o : Open). changed (λ l. with_open o l.held l) s) (sym e)

fed_nothing : (o : Open) (n : ℕ) (s : State) → s.load.running.pending ≡ o → Misses o (suc n)
    → feeding o [] s ≡ went [] s
unfolding table_bytes
fed_nothing o n s e (table h q) = refl
fed_nothing o n s e (stored {tag} {written}) = ap (went []) (record_none tag written n s e)

-- no byte changes nothing
pub fed_none : (n : ℕ) (s : State) → Misses s.load.running.pending (suc n) → fed [] s ≡ went [] s
unfolding fed
fed_none n s m = fed_nothing s.load.running.pending n s refl m

-- `K` goes on after an open value as the byte-wise walk does, where fewer bytes than `bound` are left, and at the end
-- comes to `k`
pub record Agrees {B : Type 0} (capacity bound : ℕ) (k : Rule B) (K : List ℕ → Rule B) : Type 0 where
  pub none : (s : State) → K [] s ≡ k s
  pub some : (left : List ℕ) (s : State) → length left < bound → s.load.running.pending ≡ Shut
      → K left s ≡ thence (run capacity left between s) (at_end k)

module _ {B : Type 0} (capacity bound : ℕ) (k : Rule B) (K : List ℕ → Rule B)
    (agrees : Agrees capacity bound k K) where
  pub fed_then : (n : ℕ) (bs : List ℕ) → ((s : State) → Misses s.load.running.pending n
      → thence (fed bs s) K ≡ thence (run capacity bs between s) (at_end k))
      → (r : Result Part) → Rests (λ s'. Misses s'.load.running.pending n) r
      → thence (thence r (λ p. fed bs)) K ≡ thence (thence r (λ p. run capacity bs p)) (at_end k)
  fed_then n bs ih (went p s) h = rw h.0 (ih s h.1)
  fed_then n bs ih (asked t s) h = refl
  fed_then n bs ih (failed w s) h = refl

  -- an open value takes its bytes, and the walk goes on
  pub fed_run : (bytes : List ℕ) (n : ℕ) (s : State) → length bytes < bound → Misses s.load.running.pending n
      → thence (fed bytes s) K ≡ thence (run capacity bytes between s) (at_end k)
  unfolding run
  fed_run [] zero s h m = rw (fed_shut [] s (misses_none s.load.running.pending m)) (agrees.none s)
  fed_run [] (suc n) s h m = rw (fed_none n s m) (agrees.none s)
  fed_run (b ∷ bs) zero s h m = rw (fed_shut (b ∷ bs) s (misses_none s.load.running.pending m))
      (agrees.some (b ∷ bs) s h (misses_none s.load.running.pending m))
  fed_run (b ∷ bs) (suc n) s h m =
      rw (fed_step capacity b n bs s m) (fed_then n bs (λ s' m'. fed_run bs n s' (omega arith) m')
      (step capacity between b s) (step_rests capacity b n s m))
