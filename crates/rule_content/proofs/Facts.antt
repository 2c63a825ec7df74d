-- Facts of the values that stay whole.
use Prim.Native.Nat.{ℕ, ◌+◌, ◌-◌, ◌≤◌, ◌<◌, min}
use mathlib.Core.Path.{◌≡◌, refl, ap, sym, ◌∙◌}
use mathlib.Core.Bool.{Bool, true, false, cond}
use mathlib.Core.List.{List, [], ◌∷◌}
use native.Mathlib.Omega.{arith}
use borrow.Author.Tests.{eq-eqb, ne_eqb}
use lib.Dec.{eqb, ltb, eqb→eq}
use lib.ListN.{length, set, drop, length-drop}
use lib.Seq.{length-take-le, drop-drop}
use Rattle.lists.specs.Bytes.{byte_at, padded, padded_full, part}
use Rattle.model.specs.declared.Head.{Head}
use Rattle.model.specs.declared.Loading.{Loading}
use Rattle.model.specs.declared.Secret.{Secret}
use Rattle.model.specs.Loads.{with_taken, with_serial, with_startup, with_counter, with_secret, changed}
use Rattle.model.specs.Rules.{Result, went, failed, does, startup_ok, startup, counter_of, kept, whole}
use Rattle.model.specs.declared.Running.{Running}
use Rattle.model.specs.Loads.{with_running, running_taken}
use Rattle.walk_course.specs.declared.Course.TheVariants.{Keeps, Failed}
use Rattle.walk_course.specs.Lengths.{Sized}
use Rattle.walk_course.specs.Steps.{state_of, on, startup_of, kept_of, Judges}
use Rattle.rule_content.specs.Kept.{word_of}

-- startup information in an array: its first byte stays, or is the capacity
pub first_stays : (c : ℕ) (v : List ℕ) → length v ≡ 7 → byte_at v 0 ≤ c → padded 7 v ≡ startup_of c v
first_stays c [] e h = absurd (omega arith)
first_stays c (b ∷ bs) e h = let m : b ≡ min b c = omega arith in padded_full 7 (b ∷ bs) e ∙ ap (λ (x : ℕ). x ∷ bs) m

pub first_set : (c : ℕ) (v : List ℕ) → length v ≡ 7 → c < byte_at v 0 → set (padded 7 v) 0 c ≡ startup_of c v
first_set c [] e h = absurd (omega arith)
first_set c (b ∷ bs) e h =
    let m : c ≡ min b c = omega arith in
    ap (λ (l : List ℕ). set l 0 c) (padded_full 7 (b ∷ bs) e) ∙ ap (λ (x : ℕ). x ∷ bs) m

-- a value that lies in the data
module _ (d : List ℕ) (at n : ℕ) where
  pub value_length : at + n ≤ length d → length (part d at (at + n - at)) ≡ n
  value_length h =
      let k : at + n - at ≡ n = omega arith in
      rw k (length-take-le n (drop at d) (rw length-drop (omega arith)))

  pub value_bytes : part d at (at + n - at) ≡ part d at n
  value_bytes = let k : at + n - at ≡ n = omega arith in rw k

-- a fine value is kept, and any other's word is the command's
abbrev told : ℕ → Loading → Loading → List ℕ → Result ℕ
told w l k a = cond (eqb w 0x9000) (went 0 (state_of k a)) (failed w (state_of l a))

module _ (capacity row : ℕ) (v : List ℕ) (l : Loading) (a : List ℕ) where
  pub kept_told : kept capacity row v (state_of l a) ≡ told (word_of capacity row v) l (kept_of capacity row v l) a
  unfolding kept startup
  kept_told = go (eqb row 3) refl
    where
      next : Loading
      next = with_startup (startup_of capacity v) l

      three : (b c : Bool)
          → cond b (cond c (failed 0x6A84 (state_of l a)) (went 0 (state_of next a))) (failed 0x6A80 (state_of l a))
          ≡ told (cond b (cond c 0x6A84 0x9000) 0x6A80) l next a
      three true true = refl
      three true false = refl
      three false c = refl

      secret : Secret
      secret = record { bytes = padded 64 v; len = length v }

      others : (b c : Bool)
          → cond b (does (changed (with_serial v)))
          (cond c (does (changed (with_counter (counter_of v)))) (does (changed (with_secret (row - 6) secret))))
          (state_of l a)
          ≡ went 0 (state_of
          (cond b (with_serial v l) (cond c (with_counter (counter_of v) l) (with_secret (row - 6) secret l))) a)
      others true c = refl
      others false true = refl
      others false false = refl

      go : (b : Bool) → eqb row 3 ≡ b
          → kept capacity row v (state_of l a) ≡ told (word_of capacity row v) l (kept_of capacity row v l) a
      go true e = let q : row ≡ 3 = eqb→eq row 3 (rw e tt) in rw q (three (startup_ok v) (ltb capacity 6))
      go false e = rw e (others (eqb row 2) (eqb row 4))

-- a row that is taken is no part of what is kept
kept_taken : (capacity row : ℕ) (v : List ℕ) (p : Running) (l : Loading)
    → kept_of capacity row v (with_running (running_taken row p) l)
    ≡ with_taken row (kept_of capacity row v (with_running p l))
kept_taken capacity row v p l = go (eqb row 2) (eqb row 3) (eqb row 4)
  where
    k : Loading
    k = with_running (running_taken row p) l

    o : Loading
    o = with_running p l

    x : Secret
    x = record { bytes = padded 64 v; len = length v }

    go : (b c d : Bool)
        → cond b (with_serial v k) (cond c (with_startup (startup_of capacity v) k)
        (cond d (with_counter (counter_of v) k) (with_secret (row - 6) x k)))
        ≡ with_taken row
        (cond b (with_serial v o) (cond c (with_startup (startup_of capacity v) o)
        (cond d (with_counter (counter_of v) o) (with_secret (row - 6) x o))))
    go true c d = refl
    go false true d = refl
    go false false true = refl
    go false false false = refl

-- what a grouping comes to by the word of its content
module _ (capacity row at : ℕ) (h : Head) (d a : List ℕ) (p : Running) (l : Loading) (w : ℕ)
    (e : w ≡ word_of capacity row (part d at (at + h.len - at))) where
  abbrev next : Loading
  next = kept_of capacity row (part d at (at + h.len - at)) (with_running p l)

  told_as : kept capacity row (part d at h.len) (on p l a) ≡ told w (with_running p l) next a
  told_as =
      ap (λ (v : List ℕ). kept capacity row v (on p l a)) (sym (value_bytes d at h.len))
      ∙ kept_told capacity row (part d at (at + h.len - at)) (with_running p l) a
      ∙ ap (λ (z : ℕ). told z (with_running p l) next a) (sym e)

  pub whole_passes : (place : ℕ) → place < at → at + h.len ≤ length d → Sized row h.len → w ≡ 0x9000
      → Judges capacity (record { course = Keeps row at (at + h.len); running = running_taken row p }) d place l a
      (whole capacity row h (drop at d) (on p l a))
  unfolding whole
  whole_passes place i j z f =
      let n : at + h.len - at ≡ h.len = omega arith in
      record {
        comes = rw (
          kept_taken capacity row (part d at (at + h.len - at)) p l,
          told_as,
          eq-eqb w 0x9000 f,
          drop-drop h.len at d,
        );
        ahead = (omega arith, omega arith, j, rw n z);
      }

  pub whole_refused : (place : ℕ) → (w ≡ 0x9000 → ⊥)
      → Judges capacity (record { course = Failed w; running = p }) d place l a
      (whole capacity row h (drop at d) (on p l a))
  unfolding whole
  whole_refused place f = record { comes = rw (told_as, ne_eqb w 0x9000 f); ahead = tt }
