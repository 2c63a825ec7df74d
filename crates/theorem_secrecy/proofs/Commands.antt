-- Hiding commutes with a command.
use Prim.Native.Nat.{ℕ, zero, suc}
use mathlib.Core.Path.{◌≡◌, refl, ap, ◌∙◌}
use mathlib.Core.List.{List, [], ◌∷◌}
use native.Mathlib.Omega.{arith}
use lib.ListN.{length}
use Rattle.model.specs.Header.{header_of}
use Rattle.model.specs.Loads.{State}
use Rattle.model.specs.Rules.{Result, went, asked, failed, Rule, thence, fed, grouping}
use Rattle.model.specs.Command.{walk, ready, the_end, command}
use Rattle.theorem_secrecy.specs.View.{Mark, seens, grouping_marks, missing_in, marks_by, marks_walk, marks_command}
use Rattle.theorem_secrecy.specs.View.{Hiding, view}
use Rattle.theorem_secrecy.specs.Veil.{veil_state}
use Rattle.theorem_secrecy.proofs.Marks.{length_view}
use Rattle.theorem_secrecy.proofs.Veils.{veil_result, veil_cond, veil_thence}
use Rattle.theorem_secrecy.proofs.Hiding.{hidden, hides_fed}
use Rattle.theorem_secrecy.proofs.Grouping.{hides_grouping}

-- a turn of the walk, where there are bytes
walk_on : (fuel capacity n p1 m : ℕ) (b : List ℕ) (s : State) → length b ≡ suc m
    → walk (suc fuel) capacity n p1 b s ≡ thence (grouping capacity n p1 b s) (λ left. walk fuel capacity n p1 left)
unfolding walk
walk_on fuel capacity n p1 m [] s e = absurd (omega (arith, e))
walk_on fuel capacity n p1 m (b ∷ bs) s e = refl

module _ (z : Hiding) where
  pub hides_walk : (fuel capacity n p1 : ℕ) (b : List ℕ) (s : State)
      → walk fuel capacity n p1 (view z (marks_walk fuel capacity n p1 b s) b) (veil_state z s)
      ≡ veil_result z (walk fuel capacity n p1 b s)
  unfolding walk marks_walk view
  hides_walk zero capacity n p1 b s = refl
  hides_walk (suc fuel) capacity n p1 [] s = refl
  hides_walk (suc fuel) capacity n p1 (b ∷ bs) s =
      walk_on fuel capacity n p1 (length bs) (view z ms (b ∷ bs)) (veil_state z s) (length_view z ms (b ∷ bs))
      ∙ ap (λ (r : Result (List ℕ)). thence r (λ left. walk fuel capacity n p1 left))
      (hides_grouping z later capacity n p1 (b ∷ bs) s)
      ∙ on (λ left t. hides_walk fuel capacity n p1 left t) (grouping capacity n p1 (b ∷ bs) s)
    where
      later : List ℕ → State → List Mark
      later left t = marks_walk fuel capacity n p1 left t

      ms : List Mark
      ms = marks_by (grouping_marks (header_of (b ∷ bs))) later (grouping capacity n p1 (b ∷ bs) s)

      on : ((left : List ℕ) (t : State) → walk fuel capacity n p1 (view z (later left t) left) (veil_state z t)
          ≡ veil_result z (walk fuel capacity n p1 left t))
          → (r : Result (List ℕ)) → thence (hidden z later r) (λ left. walk fuel capacity n p1 left)
          ≡ veil_result z (thence r (λ left. walk fuel capacity n p1 left))
      on ih (went left t) = ih left t
      on ih (asked tag t) = refl
      on ih (failed w t) = refl

  veil_end : (p1 : ℕ) (s : State) → the_end p1 (veil_state z s) ≡ veil_result z (the_end p1 s)
  unfolding the_end ready
  veil_end p1 s = simp (← veil_cond z)

  -- the groupings and the end, behind an open value's bytes
  abbrev rest : ℕ → ℕ → ℕ → List ℕ → Rule ℕ
  rest capacity n p1 left s = thence (walk (length left) capacity n p1 left s) (λ a. the_end p1)

  hides_rest : (capacity n p1 : ℕ) (r : Result (List ℕ))
      → thence (hidden z (λ left t. marks_walk (length left) capacity n p1 left t) r) (λ left. rest capacity n p1 left)
      ≡ veil_result z (thence r (λ left. rest capacity n p1 left))
  hides_rest capacity n p1 (went left t) =
      rw (
        length_view z (marks_walk (length left) capacity n p1 left t) left,
        hides_walk (length left) capacity n p1 left t,
      )
      (veil_thence z (walk (length left) capacity n p1 left t) (λ a. the_end p1) (λ a u. veil_end p1 u))
  hides_rest capacity n p1 (asked tag t) = refl
  hides_rest capacity n p1 (failed w t) = refl

  pub hides_command : (capacity p1 : ℕ) (b : List ℕ) (s : State)
      → command capacity p1 (view z (marks_command capacity p1 b s) b) (veil_state z s)
      ≡ veil_result z (command capacity p1 b s)
  unfolding command marks_command
  hides_command capacity p1 b s =
      let ms = marks_by (seens (missing_in s.load.running.pending))
      (λ left t. marks_walk (length left) capacity (length b) p1 left t) (fed b s) in
      rw (length_view z ms b, hides_fed z (λ left t. marks_walk (length left) capacity (length b) p1 left t) b s)
      (hides_rest capacity (length b) p1 (fed b s))
