-- A walk step by step: one step, and what is left is the rest of the walk.
use Prim.Native.Nat.{ℕ, zero, suc, ◌-◌, ◌≤◌, ◌<◌}
use mathlib.Core.Path.{◌≡◌, refl, ap, sym, ◌∙◌, subst}
use mathlib.Core.List.{List, [], ◌∷◌}
use lib.ListN.{length, drop, length-drop}
use native.Mathlib.Nat.{le_refl}
use native.Mathlib.Omega.{arith}
use Rattle.model.specs.declared.Open.{Open}
use Rattle.model.specs.declared.Open.TheVariants.{Shut, Table, Record}
use Rattle.model.specs.Stored.{area_size}
use Rattle.model.specs.Loads.{State}
use Rattle.model.specs.Rules.{Result, went, asked, failed, thence, fed, grouping}
use Rattle.model.specs.Command.{is_shut, walk, the_end, command}
use Rattle.theorem_sound.specs.Keeps.{Ends}
use Rattle.theorem_sound.proofs.Inside.{Steady}
use Rattle.theorem_sound.proofs.Feeds.{Going, Walks, some_table, fed_walks}
use Rattle.theorem_sound.proofs.Groupings.{shut_is, steady_closed}
use Rattle.theorem_sound.proofs.Walks.{grouping_walks}
use Rattle.walk_step.specs.Turns.{turn_by, step_of}
use Rattle.walk_step.specs.Paces.{Paced, paced_on, paced, onward_by, onward}
use Rattle.walk_step.proofs.Shorter.{Shorter, grouping_shorter}

-- what follows a step may be said otherwise where it goes on
on_same : (f g : List ℕ → State → Paced) (at : ℕ) (P : List ℕ → State → Type 0) (S : State → Type 0)
    (r : Result (List ℕ)) → Ends P S r
    → ((left : List ℕ) (t : State) → P left t → f left t ≡ g left t) → paced_on f at r ≡ paced_on g at r
on_same f g at P S (went left t) z h = h left t z
on_same f g at P S (asked q t) z h = refl
on_same f g at P S (failed w t) z h = refl

module _ (capacity n p1 : ℕ) where
  -- as many turns as there are bytes are enough
  pub enough : (f g place : ℕ) (bytes : List ℕ) (s : State) → length bytes ≤ f → length bytes ≤ g
      → paced f capacity n p1 place bytes s ≡ paced g capacity n p1 place bytes s
  unfolding paced
  enough zero zero place bytes s h i = refl
  enough zero (suc g) place [] s h i = refl
  enough zero (suc g) place (b ∷ bs) s h i = absurd (omega arith)
  enough (suc f) zero place [] s h i = refl
  enough (suc f) zero place (b ∷ bs) s h i = absurd (omega arith)
  enough (suc f) (suc g) place [] s h i = refl
  enough (suc f) (suc g) place (b ∷ bs) s h i =
      on_same _ _ _ (λ left t. length left ≤ length bs) (λ t. Unit {0}) (grouping capacity n p1 (b ∷ bs) s)
      (grouping_shorter capacity n p1 b bs s)
      (λ left t z. enough f g _ left t (omega arith) (omega arith))

  -- it is the definition's walk
  pub its_walk : (f place : ℕ) (bytes : List ℕ) (s : State)
      → (paced f capacity n p1 place bytes s).result ≡ walk f capacity n p1 bytes s
  unfolding paced walk
  its_walk zero place bytes s = refl
  its_walk (suc f) place [] s = refl
  its_walk (suc f) place (b ∷ bs) s = go (grouping capacity n p1 (b ∷ bs) s)
      (λ left t. its_walk f (n - length (b ∷ bs)) left t)
    where
      at : ℕ
      at = n - length (b ∷ bs)

      go : (r : Result (List ℕ)) → ((left : List ℕ) (t : State)
          → (paced f capacity n p1 at left t).result ≡ walk f capacity n p1 left t)
          → (paced_on (λ left t. paced f capacity n p1 at left t) at r).result
          ≡ thence r (λ left. walk f capacity n p1 left)
      go (went left t) h = h left t
      go (asked q t) h = refl
      go (failed w t) h = refl

  -- where nothing is open that has bytes left, what is left are groupings
  settled : (k place : ℕ) (left : List ℕ) (t : State) → Walks k left t
      → onward capacity n p1 place left t ≡ paced (length left) capacity n p1 place left t
  unfolding onward paced
  settled k place [] t w = refl
  settled k place (b ∷ bs) t w =
      ap (λ (o : Open). onward_by o capacity n p1 place (b ∷ bs) t)
      (shut_is t.load.running.pending (w.shut (omega arith)))

  step_walks : (bytes : List ℕ) (s : State) → Steady area_size s → Going area_size (step_of capacity n p1 bytes s)
  step_walks bytes s y = go s.load.running.pending refl
    where
      feeds : Going area_size (fed bytes s)
      feeds = fed_walks area_size bytes s (some_table s.load.running.pending y.some) y.area y.inside

      go : (o : Open) → s.load.running.pending ≡ o → Going area_size (turn_by o capacity n p1 bytes s)
      go Shut e = grouping_walks area_size capacity n p1 bytes s (steady_closed area_size s y (ap is_shut e))
      go (Table held m) e = feeds
      go (Record tag w m) e = feeds

  -- ONE STEP IS ONE TURN OF THE WALK
  pub one_turn : (place b : ℕ) (bs : List ℕ) (s : State) → Steady area_size s
      → onward capacity n p1 place (b ∷ bs) s
      ≡ paced_on (λ left t. onward capacity n p1 (n - length (b ∷ bs)) left t) (n - length (b ∷ bs))
      (step_of capacity n p1 (b ∷ bs) s)
  unfolding onward paced
  one_turn place b bs s y = go s.load.running.pending refl
    where
      at : ℕ
      at = n - length (b ∷ bs)

      later : List ℕ → State → Paced
      later left t = onward capacity n p1 at left t

      feeds : Ends (λ left t. Walks area_size left t) (Steady area_size) (fed (b ∷ bs) s)
      feeds = fed_walks area_size (b ∷ bs) s (some_table s.load.running.pending y.some) y.area y.inside

      open_turn : paced_on (λ left t. paced (length left) capacity n p1 at left t) at (fed (b ∷ bs) s)
          ≡ paced_on later at (fed (b ∷ bs) s)
      open_turn =
          on_same _ later at (λ left t. Walks area_size left t) (Steady area_size) (fed (b ∷ bs) s) feeds
          (λ left t w. sym (settled area_size at left t w))

      both : (r : Result (List ℕ)) → Going area_size r → Shorter (length bs) r
          → Ends (λ left t. Walks area_size left t × (length left ≤ length bs)) (λ t. Unit {0}) r
      both (went left t) w z = (w, z)
      both (asked q t) w z = tt
      both (failed v t) w z = tt

      shut_turn : s.load.running.pending ≡ Shut
          → paced (length (b ∷ bs)) capacity n p1 place (b ∷ bs) s
          ≡ paced_on later at (grouping capacity n p1 (b ∷ bs) s)
      shut_turn e =
          on_same _ later at (λ left t. Walks area_size left t × (length left ≤ length bs)) (λ t. Unit {0})
          (grouping capacity n p1 (b ∷ bs) s)
          (both (grouping capacity n p1 (b ∷ bs) s)
          (grouping_walks area_size capacity n p1 (b ∷ bs) s (steady_closed area_size s y (ap is_shut e)))
          (grouping_shorter capacity n p1 b bs s))
          (λ left t z. enough (length bs) (length left) at left t z.1 (le_refl (length left)) ∙ sym
          (settled area_size at left t z.0))

      go : (o : Open) → s.load.running.pending ≡ o
          → onward_by o capacity n p1 place (b ∷ bs) s ≡ paced_on later at (turn_by o capacity n p1 (b ∷ bs) s)
      go Shut e = shut_turn e
      go (Table held m) e = open_turn
      go (Record tag w m) e = open_turn

  pub one_turn_at : (place i : ℕ) (bytes : List ℕ) (s : State) → 1 ≤ length bytes → n - length bytes ≡ i
      → Steady area_size s
      → onward capacity n p1 place bytes s ≡ paced_on (λ left t. onward capacity n p1 i left t) i
      (step_of capacity n p1 bytes s)
  one_turn_at place i [] s h q y = absurd (omega arith)
  one_turn_at place i (b ∷ bs) s h q y =
      subst (λ (x : ℕ). onward capacity n p1 place (b ∷ bs) s
      ≡ paced_on (λ left t. onward capacity n p1 x left t) x (step_of capacity n p1 (b ∷ bs) s)) q
      (one_turn place b bs s y)

-- of a place in the data
module _ (capacity p1 : ℕ) (d : List ℕ) (i place : ℕ) (s : State) (h : i < length d) (y : Steady area_size s) where
  abbrev n : ℕ
  n = length d

  at_i : onward capacity n p1 place (drop i d) s
      ≡ paced_on (λ left t. onward capacity n p1 i left t) i (step_of capacity n p1 (drop i d) s)
  at_i =
      let k : length (drop i d) ≡ n - i = length-drop i d in
      one_turn_at capacity n p1 place i (drop i d) s (omega arith) (omega arith) y

  pub turn_went : (left : List ℕ) (t : State) → step_of capacity n p1 (drop i d) s ≡ went left t
      → Steady area_size t × (onward capacity n p1 place (drop i d) s ≡ onward capacity n p1 i left t)
  turn_went left t e = ((subst (Going area_size) e (step_walks capacity n p1 (drop i d) s y)).steady, at_i ∙ rw e)

  pub turn_asked : (q : ℕ) (t : State) → step_of capacity n p1 (drop i d) s ≡ asked q t
      → Steady area_size t × (onward capacity n p1 place (drop i d) s ≡ record { result = asked q t; place = i })
  turn_asked q t e = (subst (Going area_size) e (step_walks capacity n p1 (drop i d) s y), at_i ∙ rw e)

  pub turn_failed : (w : ℕ) (t : State) → step_of capacity n p1 (drop i d) s ≡ failed w t
      → Steady area_size t × (onward capacity n p1 place (drop i d) s ≡ record { result = failed w t; place = i })
  turn_failed w t e = (subst (Going area_size) e (step_walks capacity n p1 (drop i d) s y), at_i ∙ rw e)

-- a whole command, which has bytes
pub command_onward : (capacity p1 place b : ℕ) (bs : List ℕ) (s : State)
    → command capacity p1 (b ∷ bs) s ≡ thence (onward capacity (length (b ∷ bs)) p1 place (b ∷ bs) s).result
    (λ k. the_end p1)
unfolding command onward
command_onward capacity p1 place b bs s = go s.load.running.pending refl
  where
    n : ℕ
    n = length (b ∷ bs)

    fed_on : (r : Result (List ℕ)) → thence r (λ left. λ t. thence (walk (length left) capacity n p1 left t)
        (λ k. the_end p1))
        ≡ thence (paced_on (λ left t. paced (length left) capacity n p1 (n - length (b ∷ bs)) left t)
        (n - length (b ∷ bs)) r).result (λ k. the_end p1)
    fed_on (went left t) = rw (its_walk capacity n p1 (length left) (n - length (b ∷ bs)) left t)
    fed_on (asked q t) = refl
    fed_on (failed w t) = refl

    go : (o : Open) → s.load.running.pending ≡ o
        → command capacity p1 (b ∷ bs) s ≡ thence (onward_by o capacity n p1 place (b ∷ bs) s).result (λ k. the_end p1)
    go Shut e = unfold fed in rw (its_walk capacity n p1 (length (b ∷ bs)) place (b ∷ bs) s, e)
    go (Table held m) e = fed_on (fed (b ∷ bs) s)
    go (Record tag w m) e = fed_on (fed (b ∷ bs) s)

pub command_all : (capacity p1 place : ℕ) (bytes : List ℕ) (s : State) → 1 ≤ length bytes
    → command capacity p1 bytes s ≡ thence (onward capacity (length bytes) p1 place (drop 0 bytes) s).result
    (λ k. the_end p1)
command_all capacity p1 place [] s h = absurd (omega arith)
command_all capacity p1 place (b ∷ bs) s h = command_onward capacity p1 place b bs s

-- where nothing is open, it is the walk over groupings
pub shut_walk : (capacity n p1 place : ℕ) (bytes : List ℕ) (s : State) → s.load.running.pending ≡ Shut
    → (onward capacity n p1 place bytes s).result ≡ walk (length bytes) capacity n p1 bytes s
unfolding onward walk
shut_walk capacity n p1 place [] s e = refl
shut_walk capacity n p1 place (b ∷ bs) s e =
    ap (λ (o : Open). (onward_by o capacity n p1 place (b ∷ bs) s).result) e ∙ its_walk capacity n p1
    (length (b ∷ bs)) place (b ∷ bs) s
