-- The veil of a state and of what a rule comes to, and that the single changes of a card keep out of its way.
use Prim.Native.Nat.{ℕ, zero, suc, ◌+◌}
use mathlib.Core.Path.{◌≡◌, refl, ap}
use mathlib.Core.Bool.{Bool, true, false, cond}
use mathlib.Core.List.{List, [], ◌∷◌}
use native.Mathlib.Nat.{add-zero, add-suc, suc-add, zero-add}
use lib.ListN.{length, set}
use Rattle.lists.specs.Bytes.{padded}
use Rattle.model.specs.declared.Secret.{Secret}
use Rattle.model.specs.Loads.{State, with_secret, changed}
use Rattle.model.specs.Rules.{Result, went, asked, failed, Rule, thence}
use Rattle.theorem_secrecy.specs.View.{Hiding}
use Rattle.theorem_secrecy.specs.Veil.{blotted, veil_secret, veil_secrets, with_secrets, veil_state}
use Rattle.theorem_secrecy.proofs.Marks.{length_blotted, blotted_append}

-- a secret as it is kept
abbrev pub kept_as : List ℕ → Secret
kept_as v = record { bytes = padded 64 v; len = length v }

pub veil_kept : (hides : ℕ → Bool) (v : List ℕ) → kept_as (blotted hides 0 v) ≡ veil_secret hides (kept_as v)
veil_kept hides v = rw (length_blotted, ← blotted_append)

module _ (z : Hiding) where
  abbrev pub veil_result : {A : Type 0} → Result A → Result A
  veil_result (went a s) = went a (veil_state z s)
  veil_result (asked tag s) = asked tag (veil_state z s)
  veil_result (failed w s) = failed w (veil_state z s)

  veil_set : (k i : ℕ) (x : Secret) (xs : List Secret)
      → set (veil_secrets z k xs) i (veil_secret (z (k + i)) x) ≡ veil_secrets z k (set xs i x)
  unfolding veil_secrets
  veil_set k i x [] = refl
  veil_set k zero x (y ∷ ys) = rw add-zero
  veil_set k (suc i) x (y ∷ ys) = rw (add-suc, ← suc-add) (ap (λ (l : List Secret). veil_secret (z k) y ∷ l)
      (veil_set (suc k) i x ys))

  -- a secret that is kept, of its bytes as they may be seen
  pub veil_secret_lem : (k : ℕ) (v : List ℕ) (s : State)
      → changed (with_secret k (kept_as (blotted (z k) 0 v))) (veil_state z s)
      ≡ veil_state z (changed (with_secret k (kept_as v)) s)
  veil_secret_lem k v s =
      rw (veil_kept (z k) v)
      (ap (λ (xs : List Secret). record { load = with_secrets xs s.load; area = s.area })
      (rw zero-add at (veil_set 0 k (kept_as v) s.load.secrets)))

  pub veil_cond : {A : Type 0} (b : Bool) (x y : Result A)
      → cond b (veil_result x) (veil_result y) ≡ veil_result (cond b x y)
  veil_cond true x y = refl
  veil_cond false x y = refl

  pub veil_thence : {A B : Type 0} (r : Result A) (k : A → Rule B)
      → ((a : A) (s : State) → k a (veil_state z s) ≡ veil_result (k a s))
      → thence (veil_result r) k ≡ veil_result (thence r k)
  veil_thence (went a s) k e = e a s
  veil_thence (asked tag s) k e = refl
  veil_thence (failed w s) k e = refl
