-- A record's turn, as the owner of the card's parts makes it.
use Prim.Native.Nat.{ℕ, ◌≤◌}
use mathlib.Core.Path.{◌≡◌, refl, ap, sym, ◌∙◌, subst}
use mathlib.Core.Bool.{Bool, true, false, cond, ◌&&◌}
use mathlib.Core.List.{List}
use lib.Dec.{eqb}
use lib.ListN.{length, drop}
use native.Mathlib.Omega.{arith}
use borrow.Author.Tests.{eqb-true, eq-eqb}
use Rattle.lists.specs.Bytes.{part, byte_at}
use Rattle.model.specs.declared.Card.{Card}
use Rattle.model.specs.declared.Loading.{Loading}
use Rattle.model.specs.Loads.{with_progress}
use Rattle.model.specs.Rules.{Result, thence}
use Rattle.model.specs.Command.{the_end}
use Rattle.model.specs.Events.{Reply, event, commanded}
use Rattle.model.specs.Session.{replied, turn_of}
use Rattle.event_kinds.specs.Faults.{event_of, fault_in}
use Rattle.answers.specs.Answers.{Answers}
use Rattle.walk_course.specs.Steps.{state_of}
use Rattle.walk_step.specs.Paces.{onward}
use Rattle.walk_step.proofs.Paces.{command_all}
use Rattle.walk_command.specs.declared.End.{End}
use Rattle.walk_command.specs.declared.Said.{Said}
use Rattle.walk_command.specs.Ends.{end_of, settled_card, Settles}
use Rattle.event_replies.specs.declared.Replied.{Replied}
use Rattle.event_replies.specs.Lives.{is_command, lived_as}
use Rattle.event_replies.proofs.ByKind.{command_event, command_selected, command_data, data_command}
use Rattle.event_replies.proofs.Replies.{fault_turn, event_turn}
use Rattle.register_entries.specs.Owned.{span_of, held_as, shut_as, locked_as}

-- the span of a command's bytes, and of anything else
both : (a b : Bool) (n : ℕ) → 1 ≤ cond (a && b) n 0 → (a ≡ true) × (b ≡ true) × (cond (a && b) n 0 ≡ n)
both true true n h = (refl, refl, refl)
both true false n h = absurd (omega arith)
both false b n h = absurd (omega arith)

neither : (a b : Bool) (n : ℕ) → cond (a && b) n 0 ≡ 0 → (b ≡ true → n ≡ 0 → ⊥) → a ≡ true → b ≡ false
neither true true n e h q = absurd (h refl e)
neither true false n e h q = refl
neither false b n e h q = let z : ◌≡◌ {A = Bool} false true = q in cc

module _ (number gp internal : ℕ) (selected : Bool) (kind m n : ℕ)
    (e : n ≡ span_of number gp internal selected kind m) where
  pub span_command : 1 ≤ n → (n ≡ m) × (number ≡ 0) × (is_command kind m gp internal selected ≡ true)
  unfolding span_of
  span_command h =
      let f = both (eqb number 0) (is_command kind m gp internal selected) m (subst (λ (x : ℕ). 1 ≤ x) e h) in
      (e ∙ f.2, eqb-true number 0 f.0, f.1)

  pub span_other : n ≡ 0 → (is_command kind m gp internal selected ≡ true → m ≡ 0 → ⊥) → number ≡ 0
      → is_command kind m gp internal selected ≡ false
  unfolding span_of
  span_other h f q = neither (eqb number 0) (is_command kind m gp internal selected) m (sym e ∙ h) f
      (eq-eqb number 0 q)

-- a record on a card: its kind, P1 and data
module _ (c : Card) (a r d : List ℕ) (q : d ≡ part r 4 (byte_at r 3)) where
  abbrev on_data : Reply
  on_data = event (event_of (byte_at r 0) (byte_at r 1) d) c a

  its_turn : fault_in r ≡ 0 → turn_of c a r ≡ replied on_data
  its_turn e = event_turn c a r e ∙ ap (λ (x : List ℕ). replied (event (event_of (byte_at r 0) (byte_at r 1) x) c a))
      (sym q)

  -- a command
  pub turn_command : fault_in r ≡ 0 → is_command (byte_at r 0) (length d) c.life.gp c.loading.running.internal
      c.life.selected ≡ true
      → (e : End) (l : Loading) (b : List ℕ) (x : Said)
      → end_of e (state_of l b) ≡ (onward c.chip.capacity (length d) (byte_at r 1) 0 (drop 0 d)
      (state_of c.loading a)).result
      → Settles x c l b (commanded c (thence (end_of e (state_of l b)) (λ k. the_end (byte_at r 1))))
      → (settled_card x c l ≡ (turn_of c a r).card) × (b ≡ (turn_of c a r).area) × (0 ≡ (turn_of c a r).number)
      × (x.word ≡ (turn_of c a r).word)
  turn_command f h e l b x g s =
      let n : 1 ≤ length d = omega (arith, command_data (byte_at r 0) (byte_at r 1) d c a h) in
      let t : on_data ≡ commanded c (thence (end_of e (state_of l b)) (λ k. the_end (byte_at r 1))) =
      command_event (byte_at r 0) (byte_at r 1) d c a h
      ∙ data_command (byte_at r 0) (byte_at r 1) d c a (command_selected (byte_at r 0) (byte_at r 1) d c a h)
      (command_data (byte_at r 0) (byte_at r 1) d c a h)
      ∙ ap (commanded c) (command_all c.chip.capacity (byte_at r 1) 0 d (state_of c.loading a) n ∙ ap
      (λ (y : Result ℕ). thence y (λ k. the_end (byte_at r 1))) (sym g)) in
      let z = its_turn f ∙ ap replied t in
      rw z (s.leaves, s.keeps, refl, s.says)

  -- any other event
  pub turn_lived : fault_in r ≡ 0 → (x : Replied) (b before after : List ℕ)
      → Answers on_data x.word x.answered (lived_as c x) b before after
      → (lived_as c x ≡ (turn_of c a r).card) × (b ≡ (turn_of c a r).area) × (0 ≡ (turn_of c a r).number)
      × (x.word ≡ (turn_of c a r).word)
  turn_lived f x b before after s = rw (its_turn f) (s.leaves, s.keeps, refl, s.says)

  -- a record that is no event
  pub turn_refused : (fault_in r ≡ 0 → ⊥) → (c ≡ (turn_of c a r).card) × (a ≡ (turn_of c a r).area)
      × (fault_in r ≡ (turn_of c a r).number) × (0 ≡ (turn_of c a r).word)
  turn_refused f = rw (fault_turn c a r f) (refl, refl, refl, refl)

-- the parts that the owner has then are the card's
pub settled_so : (x : Said) (c : Card) (l : Loading)
    → record {
      chip = c.chip;
      life = locked_as c.life x.locks;
      loading = with_progress x.running
          (held_as l.held l.running x.locks) l;
    } ≡ settled_card x c l
settled_so x c l = go x.locks
  where
    go : (b : Bool)
        → ◌≡◌ {A = Card}
        (record {
          chip = c.chip;
          life = locked_as c.life b;
          loading = with_progress x.running
              (held_as l.held l.running b) l;
        })
        (settled_card (record { word = x.word; running = x.running; locks = b }) c l)
    go true = refl
    go false = refl

pub lived_so : (x : Replied) (c : Card)
    → record {
      chip = c.chip;
      life = x.life;
      loading = with_progress (shut_as c.loading.running x.locks)
          (held_as c.loading.held c.loading.running x.locks) c.loading;
    }
    ≡ lived_as c x
lived_so x c = go x.locks
  where
    go : (b : Bool)
        → ◌≡◌ {A = Card}
        (record {
          chip = c.chip;
          life = x.life;
          loading = with_progress (shut_as c.loading.running b)
              (held_as c.loading.held c.loading.running b) c.loading;
        })
        (lived_as c (record { word = x.word; answered = x.answered; life = x.life; locks = b }))
    go true = refl
    go false = refl
