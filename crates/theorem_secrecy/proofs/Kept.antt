-- The secrets that the card keeps of a record: those from before, but for the marked bytes, each in its place.
use Prim.Native.Nat.{ℕ, zero, suc}
use mathlib.Core.Path.{◌≡◌, refl, ap, ap₂, sym, ◌∙◌}
use mathlib.Core.Bool.{Bool, true, false, cond, not, ◌&&◌, ◌||◌, true≢false}
use mathlib.Core.List.{List, [], ◌∷◌, ◌++◌}
use native.Mathlib.Omega.{arith}
use lib.Dec.{eqb}
use lib.ListN.{length, take, drop}
use borrow.Author.Tests.{eqb-true, not-false}
use Rattle.lists.specs.Bytes.{byte_at, part}
use Rattle.lists.specs.Choice.{by_cond}
use Rattle.model.specs.declared.Secret.{Secret}
use Rattle.model.specs.declared.Card.{Card}
use Rattle.model.specs.Stored.{Event, event_in, is_kind, padded_zero}
use Rattle.model.specs.Header.{header_of}
use Rattle.model.specs.Loads.{State}
use Rattle.model.specs.Rules.{Result, went, asked, failed, Rule, thence, fed, grouping}
use Rattle.model.specs.Command.{walk, the_end, command}
use Rattle.model.specs.Events.{Reply, locked, with_loading, install, installing, making_selectable, select, lock}
use Rattle.model.specs.Events.{unlock, deselect, foreign, errs, commanded, store_data, stuck, personalizing, otherwise}
use Rattle.model.specs.Events.{event}
use Rattle.model.specs.Session.{Turn, turn_of}
use Rattle.theorem_secrecy.specs.View.{Mark, seens, grouping_marks, missing_in, marks_by, marks_walk, marks_command}
use Rattle.theorem_secrecy.specs.View.{marks_data, marks_in, walked, state_in}
use Rattle.theorem_secrecy.specs.Kept.{kept_by}
use Rattle.theorem_secrecy.proofs.Events.{unselected, stores, Walks, walks, played}
use Rattle.theorem_secrecy.proofs.Places.{kept_nil, kept_none, kept_append, kept_seen, kept_within}
use Rattle.theorem_secrecy.proofs.Stays.{secrets_of, stays_thence, stays_end}
use Rattle.theorem_secrecy.proofs.Keeps.{Keeps, keeps_fed, keeps_grouping}
use Rattle.lists.specs.Truth.{same_if}

-- a rule, and then what it left
then_kept : (front : List Mark) (later : List ℕ → State → List Mark) (b : List ℕ) (xs : List Secret)
    (r : Result (List ℕ)) (k : List ℕ → Rule ℕ)
    → Keeps front b xs r
    → ((left : List ℕ) (t : State) → secrets_of (k left t) ≡ kept_by (later left t) left t.load.secrets)
    → secrets_of (thence r k) ≡ kept_by (marks_by front later r) b xs
then_kept front later b xs (went left t) k p q =
    q left t ∙ ap₂ (λ (l : List ℕ) (ys : List Secret). kept_by (later left t) l ys) p.0 p.1 ∙ sym
    (kept_append front (later left t) b xs)
then_kept front later b xs (asked tag t) k p q = p ∙ sym (kept_none b xs)
then_kept front later b xs (failed w t) k p q = p ∙ sym (kept_none b xs)

walk_kept : (fuel capacity n p1 : ℕ) (b : List ℕ) (s : State)
    → secrets_of (walk fuel capacity n p1 b s) ≡ kept_by (marks_walk fuel capacity n p1 b s) b s.load.secrets
unfolding walk marks_walk
walk_kept zero capacity n p1 b s = sym (kept_none b s.load.secrets)
walk_kept (suc fuel) capacity n p1 [] s = sym (kept_none [] s.load.secrets)
walk_kept (suc fuel) capacity n p1 (b ∷ bs) s =
    then_kept (grouping_marks (header_of (b ∷ bs))) (λ left t. marks_walk fuel capacity n p1 left t) (b ∷ bs)
    s.load.secrets (grouping capacity n p1 (b ∷ bs) s)
    (λ left. walk fuel capacity n p1 left) (keeps_grouping capacity n p1 (b ∷ bs) s)
    (λ left t. walk_kept fuel capacity n p1 left t)

pub command_kept : (capacity p1 : ℕ) (b : List ℕ) (s : State)
    → secrets_of (command capacity p1 b s) ≡ kept_by (marks_command capacity p1 b s) b s.load.secrets
unfolding command marks_command
command_kept capacity p1 b s =
    then_kept (seens (missing_in s.load.running.pending))
    (λ left t. marks_walk (length left) capacity (length b) p1 left t) b s.load.secrets (fed b s)
    (λ left t. thence (walk (length left) capacity (length b) p1 left t) (λ a. the_end p1)) (keeps_fed b s)
    (λ left t. stays_thence (walk (length left) capacity (length b) p1 left t) (λ a. the_end p1)
    (λ a u. stays_end p1 u) ∙ walk_kept (length left) capacity (length b) p1 left t)

-- events
abbrev secrets_in : Reply → List Secret
secrets_in r = r.card.loading.secrets

secrets_if : (b : Bool) (x y : Reply) → secrets_in (cond b x y) ≡ cond b (secrets_in x) (secrets_in y)
secrets_if true x y = refl
secrets_if false x y = refl

errs_kept : (w : ℕ) (c : Card) (a : List ℕ) → secrets_in (errs w c a) ≡ c.loading.secrets
unfolding errs
errs_kept w c a = on (eqb c.loading.running.internal 0x5A)
  where
    on : (b : Bool) → (cond b (locked c) c).loading.secrets ≡ c.loading.secrets
    on true = refl
    on false = refl

commanded_kept : (c : Card) (r : Result ℕ) → secrets_in (commanded c r) ≡ secrets_of r
commanded_kept c (went n s) = refl
commanded_kept c (asked tag s) = refl
commanded_kept c (failed w s) = errs_kept w (with_loading s.load c) s.area

-- a selected card's STORE DATA; an empty one has no byte to keep
empty_kept : (ms : List Mark) (d : List ℕ) (xs : List Secret) → eqb (length d) 0 ≡ true → kept_by ms d xs ≡ xs
empty_kept ms [] xs e = kept_nil ms xs
empty_kept ms (b ∷ bs) xs e = absurd (omega (arith, eqb-true (length (b ∷ bs)) 0 e))

module _ (p1 : ℕ) (d : List ℕ) (c : Card) (a : List ℕ) where
  store_kept : c.life.selected ≡ true → secrets_in (store_data p1 d c a)
      ≡ kept_by (marks_command c.chip.capacity p1 d (state_in c a)) d c.loading.secrets
  unfolding store_data
  store_kept sel =
      by_cond Kept c.life.selected
      (λ _. by_cond Kept (eqb (length d) 0)
      (λ e. errs_kept 0x6700 c a ∙ sym (empty_kept ms d c.loading.secrets e))
      (λ _. commanded_kept c (command c.chip.capacity p1 d (state_in c a)) ∙ command_kept c.chip.capacity p1 d
      (state_in c a)))
      (λ n. absurd (true≢false (sym sel ∙ n)))
    where
      ms : List Mark
      ms = marks_command c.chip.capacity p1 d (state_in c a)

      Kept : Reply → Type 0
      Kept r = secrets_in r ≡ kept_by ms d c.loading.secrets

  not_selected : c.life.selected ≡ false → secrets_in (store_data p1 d c a) ≡ c.loading.secrets
  unfolding store_data
  not_selected sel = by_cond (λ (r : Reply). secrets_in r ≡ c.loading.secrets) c.life.selected
      (λ e. absurd (true≢false (sym e ∙ sel))) (λ _. refl)

-- an event whose data is not walked keeps no secret
stuck_kept : (e : Event) (c : Card) (a : List ℕ) → secrets_in (stuck e c a) ≡ c.loading.secrets
unfolding stuck
stuck_kept e c a = simp (secrets_if, same_if)

install_kept : (p1 : ℕ) (d : List ℕ) (c : Card) (a : List ℕ) → secrets_in (install p1 d c a) ≡ c.loading.secrets
unfolding install installing making_selectable
install_kept p1 d c a = simp (secrets_if, same_if)

select_kept : (d : List ℕ) (c : Card) (a : List ℕ) → secrets_in (select d c a) ≡ c.loading.secrets
unfolding select
select_kept d c a = simp (secrets_if, same_if)

lock_kept : (c : Card) (a : List ℕ) → secrets_in (lock c a) ≡ c.loading.secrets
unfolding lock
lock_kept c a = simp (secrets_if, same_if)

unlock_kept : (c : Card) (a : List ℕ) → secrets_in (unlock c a) ≡ c.loading.secrets
unfolding unlock
unlock_kept c a = simp (secrets_if, same_if)

foreign_kept : (c : Card) (a : List ℕ) → secrets_in (foreign c a) ≡ c.loading.secrets
unfolding foreign
foreign_kept c a = refl

deselect_kept : (c : Card) (a : List ℕ) → secrets_in (deselect c a) ≡ c.loading.secrets
unfolding deselect
deselect_kept c a = refl

event_kept : (e : Event) (c : Card) (a : List ℕ) → walked e c ≡ false → secrets_in (event e c a) ≡ c.loading.secrets
unfolding event personalizing otherwise
event_kept e c a w =
    by_cond Same (eqb c.loading.running.internal 0x5A)
    (λ i. by_cond Same (eqb c.life.gp 0x07)
    (λ g. by_cond Same (eqb e.kind 2) (λ k. out k (rw (i, g))) (λ _. stuck_kept e (locked c) a))
    (λ _. stuck_kept e c a))
    (λ i. by_cond Same (eqb e.kind 1) (λ _. install_kept e.p1 e.bytes c a)
    (λ _. by_cond Same (eqb e.kind 2) (λ k. out k (rw i))
    (λ _. by_cond Same (eqb e.kind 3) (λ _. select_kept e.bytes c a)
    (λ _. by_cond Same (eqb e.kind 4) (λ _. foreign_kept c a)
    (λ _. by_cond Same (eqb e.kind 7) (λ _. lock_kept c a)
    (λ _. by_cond Same (eqb e.kind 8) (λ _. unlock_kept c a)
    (λ _. deselect_kept c a)))))))
  where
    Same : Reply → Type 0
    Same r = secrets_in r ≡ c.loading.secrets

    out : eqb e.kind 2 ≡ true → (not (eqb c.loading.running.internal 0x5A) || eqb c.life.gp 0x07) ≡ true
        → Same (store_data e.p1 e.bytes c a)
    out k o =
        not_selected e.p1 e.bytes c a
        (unselected (eqb e.kind 2) c.life.selected (eqb c.loading.running.internal 0x5A)
        (eqb c.life.gp 0x07) w k o)

-- THE THEOREM: of a record, the card keeps the marked bytes, each where its mark says, and no other: so the view
-- hides what is kept, and nothing else
abbrev TurnKept : Card → List ℕ → List ℕ → List Mark → Type 0
TurnKept c a r ms = (turn_of c a r).card.loading.secrets ≡ kept_by ms r c.loading.secrets

turn_none : (c : Card) (a r : List ℕ) → (padded_zero r && walked (event_in r) c) ≡ false
    → (turn_of c a r).card.loading.secrets ≡ c.loading.secrets
unfolding turn_of
turn_none c a r w =
    by_cond Same (not (is_kind (byte_at r 0))) (λ _. refl)
    (λ _. by_cond Same (not (padded_zero r)) (λ _. refl)
    (λ p. event_kept (event_in r) c a (rw (not-false (padded_zero r) p) at w)))
  where
    Same : Turn → Type 0
    Same t = t.card.loading.secrets ≡ c.loading.secrets

turn_some : (c : Card) (a r : List ℕ) → Walks r c → TurnKept c a r (seens 4 ++ marks_data c a r)
turn_some c a r w =
    let n = byte_at r 3 in
    let d = part r 4 n in
    let ms = marks_command c.chip.capacity (byte_at r 1) d (state_in c a) in
    ap (λ (t : Turn). t.card.loading.secrets) (played c a r w.kind w.padded)
    ∙ ap (λ (k : ℕ). secrets_in (event (record { kind = k; p1 = byte_at r 1; bytes = d }) c a)) w.kind
    ∙ ap secrets_in (stores (byte_at r 1) d c a w.at_07)
    ∙ store_kept (byte_at r 1) d c a w.selected
    ∙ sym (kept_append (seens 4) (take n ms) r c.loading.secrets ∙ kept_within n ms (drop 4 r)
    (kept_by (seens 4) r c.loading.secrets) ∙ rw (kept_seen 4 r c.loading.secrets))

pub turn_kept : (c : Card) (a r : List ℕ) → (turn_of c a r).card.loading.secrets
    ≡ kept_by (marks_in c a r) r c.loading.secrets
unfolding marks_in
turn_kept c a r =
    by_cond (TurnKept c a r) (padded_zero r && walked (event_in r) c) (λ w. turn_some c a r (walks r c w))
    (λ w. turn_none c a r w ∙ sym (kept_none r c.loading.secrets))
