-- The byte-wise walk over two lists end to end is the walk over the second after that over the first.
use Prim.Native.Nat.{ℕ}
use mathlib.Core.Path.{◌≡◌, refl, sym, ap, ◌∙◌, subst}
use mathlib.Core.List.{List, [], ◌∷◌, ◌++◌}
use Rattle.model.specs.Loads.{State}
use Rattle.model.specs.Rules.{Result, went, asked, failed, Rule, thence}
use Rattle.theorem_cutting.specs.Bytewise.{Part, step, run}

pub thence_assoc : {A B C : Type 0} (r : Result A) (f : A → Rule B) (g : B → Rule C)
    → thence (thence r f) g ≡ thence r (λ a s. thence (f a s) g)
thence_assoc (went a s) f g = refl
thence_assoc (asked t s) f g = refl
thence_assoc (failed w s) f g = refl

pub thence_went : {A : Type 0} (r : Result A) → thence r (λ a. went a) ≡ r
thence_went (went a s) = refl
thence_went (asked t s) = refl
thence_went (failed w s) = refl

pub thence_same : {A B : Type 0} (r : Result A) (f g : A → Rule B) → ((a : A) (s : State) → f a s ≡ g a s)
    → thence r f ≡ thence r g
thence_same (went a s) f g h = h a s
thence_same (asked t s) f g h = refl
thence_same (failed w s) f g h = refl

-- results of different kinds differ
pub failed_not : {A : Type 0} (w : ℕ) (s s' : State) (a : A) → failed w s ≡ went a s' → ⊥
failed_not {A} w s s' a e = subst Fails e tt
  where
    Fails : Result A → Type 0
    Fails (went b t) = ⊥
    Fails (asked b t) = ⊥
    Fails (failed b t) = Unit {0}

pub asked_not : {A : Type 0} (w : ℕ) (s s' : State) (a : A) → asked w s ≡ went a s' → ⊥
asked_not {A} w s s' a e = subst Asks e tt
  where
    Asks : Result A → Type 0
    Asks (went b t) = ⊥
    Asks (asked b t) = Unit {0}
    Asks (failed b t) = ⊥

pub run_append : (capacity : ℕ) (xs ys : List ℕ) (p : Part) (s : State)
    → run capacity (xs ++ ys) p s ≡ thence (run capacity xs p s) (λ p'. run capacity ys p')
unfolding run
run_append capacity [] ys p s = refl
run_append capacity (x ∷ xs) ys p s =
    thence_same (step capacity p x s) (λ p'. run capacity (xs ++ ys) p')
    (λ p' s'. thence (run capacity xs p' s') (λ p''. run capacity ys p''))
    (λ p' s'. run_append capacity xs ys p' s')
    ∙ sym (thence_assoc (step capacity p x s) (λ p'. run capacity xs p') (λ p'. run capacity ys p'))

-- bytes that pass, and then others
pub run_after : (capacity : ℕ) (xs ys : List ℕ) (p p₁ : Part) (s s₁ : State)
    → run capacity xs p s ≡ went p₁ s₁ → run capacity (xs ++ ys) p s ≡ run capacity ys p₁ s₁
run_after capacity xs ys p p₁ s s₁ e =
    run_append capacity xs ys p s ∙ ap (λ (r : Result Part). thence r (λ p'. run capacity ys p')) e
