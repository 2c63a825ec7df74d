-- An event by the state and its kind, as the code tells them apart.
use Prim.Native.Nat.{ℕ}
use mathlib.Core.Path.{◌≡◌, refl, ap, sym, ◌∙◌}
use mathlib.Core.Bool.{Bool, true, false, cond, not, ◌&&◌, ◌||◌, false≢true}
use mathlib.Core.List.{List}
use lib.Dec.{eqb}
use lib.ListN.{length}
use borrow.Author.Tests.{eq-eqb, ne_eqb, eqb-true, eqb-false}
use Rattle.model.specs.declared.Card.{Card}
use Rattle.model.specs.Events.{says, locked, errs, select, store_data, stuck, personalizing, otherwise, event}
use Rattle.model.specs.Events.{commanded}
use Rattle.model.specs.Command.{command}
use Rattle.event_kinds.specs.Faults.{event_of}
use Rattle.event_replies.specs.Lives.{is_command}

-- the four tests of a command
four : (k n s g : Bool) → (k && not n && s && g) ≡ true → (k ≡ true) × (n ≡ false) × (s ≡ true) × (g ≡ true)
four true false true true e = (refl, refl, refl, refl)
four true false true false e = (refl, refl, refl, e)
four true false false g e = absurd (false≢true e)
four true true s g e = absurd (false≢true e)
four false n s g e = absurd (false≢true e)

empty : (k n s g : Bool) → (k && not n && s && g) ≡ false → k ≡ true → s ≡ true → g ≡ true → n ≡ true
empty k true s g e a b c = refl
empty k false s g e a b c = sym (rw (a, b, c) at e)

loaded : (i g : Bool) → (not i || g) ≡ true → i ≡ true → g ≡ true
loaded true g e f = e
loaded false g e f = absurd (false≢true f)

module _ (kind p1 : ℕ) (d : List ℕ) (c : Card) (a : List ℕ) where
  pub event_outside : (c.loading.running.internal ≡ 0x5A → ⊥)
      → event (event_of kind p1 d) c a ≡ otherwise (event_of kind p1 d) c a
  unfolding event
  event_outside e = rw (ne_eqb _ _ e)

  pub event_select : (c.loading.running.internal ≡ 0x5A → ⊥) → kind ≡ 3
      → event (event_of kind p1 d) c a ≡ select d c a
  event_select e f = event_outside e ∙ ap (λ (k : ℕ). otherwise (event_of k p1 d) c a) f ∙ (unfold otherwise in refl)

  pub event_data : (c.loading.running.internal ≡ 0x5A → ⊥) → kind ≡ 2
      → event (event_of kind p1 d) c a ≡ store_data p1 d c a
  event_data e f = event_outside e ∙ ap (λ (k : ℕ). otherwise (event_of k p1 d) c a) f ∙ (unfold otherwise in refl)

  -- in '5A': stuck, locked by this event, or STORE DATA
  pub event_stuck : c.loading.running.internal ≡ 0x5A → (c.life.gp ≡ 0x07 → ⊥)
      → event (event_of kind p1 d) c a ≡ stuck (event_of kind p1 d) c a
  unfolding event personalizing
  event_stuck e f = rw (eq-eqb _ _ e, ne_eqb _ _ f)

  pub event_locks : c.loading.running.internal ≡ 0x5A → c.life.gp ≡ 0x07 → (kind ≡ 2 → ⊥)
      → event (event_of kind p1 d) c a ≡ stuck (event_of kind p1 d) (locked c) a
  unfolding event personalizing
  event_locks e f g = rw (eq-eqb _ _ e, eq-eqb _ _ f, ne_eqb _ _ g)

  pub event_loads : c.loading.running.internal ≡ 0x5A → c.life.gp ≡ 0x07 → kind ≡ 2
      → event (event_of kind p1 d) c a ≡ store_data p1 d c a
  unfolding event personalizing
  event_loads e f g = rw (eq-eqb _ _ e, eq-eqb _ _ f, eq-eqb _ _ g)

  abbrev no : Bool
  no = is_command kind (length d) c.life.gp c.loading.running.internal c.life.selected

  -- STORE DATA that is no command: not selected, or without data, which locks in '5A'
  pub data_unselected : c.life.selected ≡ false → store_data p1 d c a ≡ says 0x6985 c a
  unfolding store_data
  data_unselected e =
      ap (λ (b : Bool). cond b (cond (eqb (length d) 0) (errs 0x6700 c a)
      (commanded c (command c.chip.capacity p1 d (record { load = c.loading; area = a })))) (says 0x6985 c a)) e

  data_empty : c.life.selected ≡ true → eqb (length d) 0 ≡ true → store_data p1 d c a ≡ errs 0x6700 c a
  unfolding store_data
  data_empty e f =
      ap (λ (b : Bool). cond b (cond (eqb (length d) 0) (errs 0x6700 c a)
      (commanded c (command c.chip.capacity p1 d (record { load = c.loading; area = a }))))
      (says 0x6985 c a)) e ∙ rw f

  pub data_refused : (c.loading.running.internal ≡ 0x5A → ⊥) → kind ≡ 2 → no ≡ false
      → store_data p1 d c a ≡ says (cond c.life.selected 0x6700 0x6985) c a
  unfolding is_command errs
  data_refused e f h = go c.life.selected refl
    where
      go : (b : Bool) → c.life.selected ≡ b → store_data p1 d c a ≡ says (cond b 0x6700 0x6985) c a
      go true q =
          data_empty q (empty (eqb kind 2) (eqb (length d) 0) c.life.selected _ h (eq-eqb _ _ f) q
          (rw (ne_eqb _ _ e)))
          ∙ rw (ne_eqb c.loading.running.internal 0x5A e)
      go false q = data_unselected q

  pub data_locks : c.loading.running.internal ≡ 0x5A → c.life.gp ≡ 0x07 → kind ≡ 2 → c.life.selected ≡ true
      → no ≡ false
      → store_data p1 d c a ≡ says 0x6700 (locked c) a
  unfolding is_command errs
  data_locks e g f q h =
      data_empty q (empty (eqb kind 2) (eqb (length d) 0) c.life.selected _ h (eq-eqb _ _ f) q
      (rw (eq-eqb _ _ e, eq-eqb _ _ g)))
      ∙ rw (eq-eqb c.loading.running.internal 0x5A e)

  -- a command: its data go to the walk
  pub command_event : no ≡ true → event (event_of kind p1 d) c a ≡ store_data p1 d c a
  unfolding is_command
  command_event h = go (eqb c.loading.running.internal 0x5A) refl
    where
      i : Bool
      i = eqb c.loading.running.internal 0x5A

      g : Bool
      g = eqb c.life.gp 0x07

      f : (eqb kind 2 ≡ true) × (eqb (length d) 0 ≡ false) × (c.life.selected ≡ true) × ((not i || g) ≡ true)
      f = four (eqb kind 2) (eqb (length d) 0) c.life.selected (not i || g) h

      go : (b : Bool) → eqb c.loading.running.internal 0x5A ≡ b
          → event (event_of kind p1 d) c a ≡ store_data p1 d c a
      go true q = event_loads (eqb-true _ _ q) (eqb-true _ _ (loaded i g f.3 q)) (eqb-true _ _ f.0)
      go false q = event_data (eqb-false _ _ q) (eqb-true _ _ f.0)

  pub command_selected : no ≡ true → c.life.selected ≡ true
  unfolding is_command
  command_selected h = (four (eqb kind 2) (eqb (length d) 0) c.life.selected _ h).2

  pub command_data : no ≡ true → (length d ≡ 0 → ⊥)
  unfolding is_command
  command_data h = eqb-false _ _ (four (eqb kind 2) (eqb (length d) 0) c.life.selected _ h).1

  pub data_command : c.life.selected ≡ true → (length d ≡ 0 → ⊥)
      → store_data p1 d c a ≡ commanded c (command c.chip.capacity p1 d (record { load = c.loading; area = a }))
  unfolding store_data
  data_command e f =
      ap (λ (b : Bool). cond b (cond (eqb (length d) 0) (errs 0x6700 c a)
      (commanded c (command c.chip.capacity p1 d (record { load = c.loading; area = a }))))
      (says 0x6985 c a)) e
      ∙ rw (ne_eqb _ _ f)
