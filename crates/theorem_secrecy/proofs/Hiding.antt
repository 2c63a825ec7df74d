-- "Hiding commutes with a rule", said of a rule that takes bytes and leaves some: from the bytes as they may be seen
-- and the veiled state it comes to what it came to, veiled, and leaves what it left, as it may be seen.
use Prim.Native.Nat.{ℕ}
use mathlib.Core.Path.{◌≡◌, refl, ap, ◌∙◌}
use mathlib.Core.List.{List, ◌++◌, append_assoc}
use lib.ListN.{length, take, drop}
use Rattle.model.specs.declared.Open.{Open}
use Rattle.model.specs.declared.Open.TheVariants.{Shut, Table, Record}
use Rattle.model.specs.Loads.{State}
use Rattle.model.specs.Rules.{Result, went, asked, failed, Rule, thence, feeding, fed, table_bytes, record_bytes}
use Rattle.theorem_secrecy.specs.View.{Mark, seens, marks_by, missing_in, Hiding, view}
use Rattle.theorem_secrecy.specs.Veil.{veil_state}
use Rattle.theorem_secrecy.proofs.Marks.{length_view, take_seen, drop_seen}
use Rattle.theorem_secrecy.proofs.Veils.{veil_result}
use Rattle.theorem_secrecy.proofs.Rules.{veil_table, veil_record}

module _ (z : Hiding) (later : List ℕ → State → List Mark) where
  -- what a rule came to: veiled, and what it left as it may be seen
  abbrev pub hidden : Result (List ℕ) → Result (List ℕ)
  hidden (went left s) = went (view z (later left s) left) (veil_state z s)
  hidden (asked tag s) = asked tag (veil_state z s)
  hidden (failed w s) = failed w (veil_state z s)

  -- a rule came to r on bytes b, of which it took those that `front` marks; `rule` is that rule on other bytes and
  -- the veiled state
  abbrev pub Hides : List Mark → List ℕ → Result (List ℕ) → (List ℕ → Result (List ℕ)) → Type 0
  Hides front b r rule = rule (view z (marks_by front later r) b) ≡ hidden r

  -- a first rule, which reads of the bytes only how many they are, and then others
  pub hides_then : {A : Type 0} (front : List Mark) (b : List ℕ) (r : Result A) (k : A → Rule (List ℕ))
      (first : List ℕ → Result A) (then : List ℕ → A → Rule (List ℕ))
      → ((v : List ℕ) → length v ≡ length b → first v ≡ veil_result z r)
      → ((a : A) (s : State) → r ≡ went a s → Hides front b (k a s) (λ v. then v a (veil_state z s)))
      → Hides front b (thence r k) (λ v. thence (first v) (then v))
  unfolding view
  hides_then front b (went a s) k first then p q =
      rw (p (view z (marks_by front later (k a s)) b) (length_view z (marks_by front later (k a s)) b)) (q a s refl)
  hides_then front b (asked tag s) k first then p q = rw (p b refl)
  hides_then front b (failed w s) k first then p q = rw (p b refl)

  -- a rule on the bytes behind n that are seen
  behind_seen : (n : ℕ) (front : List Mark) (b : List ℕ) (r : Result (List ℕ))
      → drop n (view z (marks_by (seens n ++ front) later r) b) ≡ view z (marks_by front later r) (drop n b)
  unfolding view
  behind_seen n front b (went left s) = rw (append_assoc (seens n) front (later left s))
      (drop_seen z n (front ++ later left s) b)
  behind_seen n front b (asked tag s) = refl
  behind_seen n front b (failed w s) = refl

  pub hides_behind : (n : ℕ) (front : List Mark) (b : List ℕ) (r : Result (List ℕ)) (rule : List ℕ → Result (List ℕ))
      → Hides front (drop n b) r rule → Hides (seens n ++ front) b r (λ v. rule (drop n v))
  hides_behind n front b r rule p = ap rule (behind_seen n front b r) ∙ p

  -- a rule that takes the first n bytes, all seen, and then makes a change
  pub hides_taken : {A : Type 0} (n : ℕ) (b : List ℕ) (r : Result A) (rule : List ℕ → Result A)
      (change : State → State)
      → rule (take n b) ≡ veil_result z r
      → ((s : State) → change (veil_state z s) ≡ veil_state z (change s))
      → Hides (seens n) b (thence r (λ a s. went (drop n b) (change s)))
      (λ v. thence (rule (take n v)) (λ a s. went (drop n v) (change s)))
  unfolding view
  hides_taken n b (went a s) rule change p q =
      rw (take_seen z n (later (drop n b) (change s)) b, drop_seen z n (later (drop n b) (change s)) b, p, q s)
  hides_taken n b (asked tag s) rule change p q = rw p
  hides_taken n b (failed w s) rule change p q = rw p

  -- "An open value takes its bytes first"
  hides_feeding : (o : Open) (b : List ℕ) (s : State)
      → Hides (seens (missing_in o)) b (feeding o b s) (λ v. feeding o v (veil_state z s))
  hides_feeding Shut b s = refl
  hides_feeding (Table held missing) b s =
      hides_taken missing b (table_bytes (take missing b) s) (λ v. table_bytes v (veil_state z s)) (λ t. t)
      (veil_table z (take missing b) s) (λ t. refl)
  hides_feeding (Record tag written missing) b s =
      hides_taken {A = ℕ} missing b (went 0 (record_bytes tag written missing (take missing b) s))
      (λ v. went 0 (record_bytes tag written missing v (veil_state z s)))
      (λ t. t) (ap (λ (t : State). went 0 t) (veil_record z tag written missing (take missing b) s)) (λ t. refl)

  pub hides_fed : (b : List ℕ) (s : State) → Hides (seens (missing_in s.load.running.pending)) b (fed b s)
      (λ v. fed v (veil_state z s))
  unfolding fed
  hides_fed b s = hides_feeding s.load.running.pending b s
