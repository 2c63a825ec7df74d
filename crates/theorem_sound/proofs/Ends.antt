-- How a statement on the ends of rules goes through rules one after another.
use Prim.Native.Nat.{ℕ}
use mathlib.Core.Path.{◌≡◌, refl}
use Rattle.model.specs.declared.Head.{Head}
use Rattle.model.specs.declared.Header.{Header}
use Rattle.model.specs.declared.Header.TheVariants.{Torn, Whole}
use Rattle.model.specs.declared.Verdict.{Verdict}
use Rattle.model.specs.declared.Verdict.TheVariants.{Passes, Refuses}
use Rattle.model.specs.Loads.{State}
use Rattle.model.specs.Rules.{Result, went, asked, failed, Rule, thence, judged, whole_head}
use Rattle.theorem_sound.specs.Keeps.{Ends}

-- what a rule leaves, and then the next
pub then_ends : {A B : Type 0} (Q : A → State → Type 0) (R : B → State → Type 0) (P : State → Type 0) (r : Result A)
    (k : A → Rule B)
    → Ends Q P r → ((a : A) (t : State) → Q a t → Ends R P (k a t)) → Ends R P (thence r k)
then_ends Q R P (went a s) k h f = f a s h
then_ends Q R P (asked t s) k h f = h
then_ends Q R P (failed w s) k h f = h

-- a weaker statement
pub ends_weaken : {A : Type 0} (Q R : A → State → Type 0) (P S : State → Type 0) (r : Result A)
    → ((a : A) (t : State) → Q a t → R a t) → ((t : State) → P t → S t) → Ends Q P r → Ends R S r
ends_weaken Q R P S (went a s) f g h = f a s h
ends_weaken Q R P S (asked t s) f g h = g s h
ends_weaken Q R P S (failed w s) f g h = g s h

-- a rule that only judges, and then the next on the same state
pub judged_then : {B : Type 0} (R : B → State → Type 0) (P : State → Type 0) (v : Verdict) (s : State)
    (k : ℕ → Rule B)
    → P s → ((n : ℕ) → v ≡ Passes n → Ends R P (k n s)) → Ends R P (thence (judged v s) k)
judged_then R P (Passes n) s k p f = f n refl
judged_then R P (Refuses w) s k p f = p

pub head_then : {B : Type 0} (R : B → State → Type 0) (P : State → Type 0) (x : Header) (s : State)
    (k : Head → Rule B)
    → P s → ((h : Head) → Ends R P (k h s)) → Ends R P (thence (whole_head x s) k)
head_then R P Torn s k p f = p
head_then R P (Whole h) s k p f = f h
