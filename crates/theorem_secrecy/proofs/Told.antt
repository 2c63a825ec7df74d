-- Which bytes are hidden is no secret: the view tells it. So two sessions that look alike have their secrets at the
-- same places.
use Prim.Native.Nat.{ℕ, zero, suc}
use mathlib.Core.Path.{◌≡◌, refl, ap, ap₂, sym, ◌∙◌}
use mathlib.Core.Bool.{true, ◌&&◌}
use mathlib.Core.List.{List, [], ◌∷◌, ◌++◌}
use native.Mathlib.Omega.{arith}
use lib.Dec.{lit<}
use lib.ListN.{length, take}
use Rattle.lists.specs.Bytes.{byte_at, part}
use Rattle.lists.specs.Choice.{by_cond}
use Rattle.model.specs.declared.Header.{Header}
use Rattle.model.specs.declared.Header.TheVariants.{Torn, Whole}
use Rattle.model.specs.declared.Card.{Card}
use Rattle.model.specs.Stored.{event_in, padded_zero}
use Rattle.model.specs.Header.{header_of}
use Rattle.model.specs.Loads.{State}
use Rattle.model.specs.Rules.{Result, went, asked, failed, fed, rule_a, grouping}
use Rattle.model.specs.Session.{Turn, turn_of}
use Rattle.theorem_secrecy.specs.View.{Mark, seens, grouping_marks, missing_in, marks_by, marks_walk, marks_command}
use Rattle.theorem_secrecy.specs.View.{marks_data, marks_in, marks_from, walked, state_in, Hiding, view, view_record}
use Rattle.theorem_secrecy.specs.View.{in_session, views_from}
use Rattle.theorem_secrecy.specs.Veil.{veil, veil_state}
use Rattle.theorem_secrecy.proofs.Marks.{length_view}
use Rattle.model.proofs.Laws.{Stops}
use Rattle.theorem_secrecy.proofs.Heads.{view_head}
use Rattle.theorem_secrecy.proofs.Hiding.{hidden, hides_fed}
use Rattle.theorem_secrecy.proofs.Grouping.{hides_grouping}
use Rattle.theorem_secrecy.proofs.Events.{Walks, walks}
use Rattle.theorem_secrecy.proofs.Turns.{first, data_seen, padded_seen, hides_turn}

pub torn_fails : (capacity n p1 : ℕ) (b : List ℕ) (s : State) → header_of b ≡ Torn → Stops (grouping capacity n p1 b s)
unfolding grouping rule_a
torn_fails capacity n p1 b s e = rw e tt

walks_on : (fuel capacity n p1 m : ℕ) (b : List ℕ) (s : State) → length b ≡ suc m
    → marks_walk (suc fuel) capacity n p1 b s ≡ marks_by (grouping_marks (header_of b))
    (λ left t. marks_walk fuel capacity n p1 left t) (grouping capacity n p1 b s)
unfolding marks_walk
walks_on fuel capacity n p1 m [] s e = absurd (omega (arith, e))
walks_on fuel capacity n p1 m (b ∷ bs) s e = refl

module _ (z : Hiding) where
  -- the marks of what a rule left are those of what it left as it may be seen
  abbrev Tells : (List ℕ → State → List Mark) → Type 0
  Tells later = (left : List ℕ) (t : State) → later (view z (later left t) left) (veil_state z t) ≡ later left t

  told_by : (front : List Mark) (later : List ℕ → State → List Mark) → Tells later → (r : Result (List ℕ))
      → marks_by front later (hidden z later r) ≡ marks_by front later r
  told_by front later p (went left t) = ap (λ (ms : List Mark). front ++ ms) (p left t)
  told_by front later p (asked tag t) = refl
  told_by front later p (failed w t) = refl

  told_head : (later : List ℕ → State → List Mark) (b : List ℕ) (x : Header) (r : Result (List ℕ)) → header_of b ≡ x
      → (x ≡ Torn → Stops r)
      → marks_by (grouping_marks (header_of (view z (marks_by (grouping_marks x) later r) b))) later (hidden z later r)
      ≡ marks_by (grouping_marks x) later (hidden z later r)
  told_head later b (Whole h) (went left t) e q =
      ap (λ (y : Header). grouping_marks y ++ later (view z (later left t) left) (veil_state z t))
      (view_head z later h b (went left t) e)
  told_head later b Torn (went left t) e q = absurd (q refl)
  told_head later b x (asked tag t) e q = refl
  told_head later b x (failed w t) e q = refl

  told_walk : (fuel capacity n p1 : ℕ) (b : List ℕ) (s : State)
      → marks_walk fuel capacity n p1 (view z (marks_walk fuel capacity n p1 b s) b) (veil_state z s)
      ≡ marks_walk fuel capacity n p1 b s
  unfolding marks_walk view
  told_walk zero capacity n p1 b s = refl
  told_walk (suc fuel) capacity n p1 [] s = refl
  told_walk (suc fuel) capacity n p1 (b ∷ bs) s =
      walks_on fuel capacity n p1 (length bs) (view z ms (b ∷ bs)) (veil_state z s) (length_view z ms (b ∷ bs))
      ∙ ap (λ (x : Result (List ℕ)). marks_by (grouping_marks (header_of (view z ms (b ∷ bs)))) later x)
      (hides_grouping z later capacity n p1 (b ∷ bs) s)
      ∙ told_head later (b ∷ bs) (header_of (b ∷ bs)) r refl (λ e. torn_fails capacity n p1 (b ∷ bs) s e)
      ∙ told_by (grouping_marks (header_of (b ∷ bs))) later (λ left t. told_walk fuel capacity n p1 left t) r
    where
      later : List ℕ → State → List Mark
      later left t = marks_walk fuel capacity n p1 left t

      r : Result (List ℕ)
      r = grouping capacity n p1 (b ∷ bs) s

      ms : List Mark
      ms = marks_by (grouping_marks (header_of (b ∷ bs))) later r

  told_command : (capacity p1 : ℕ) (b : List ℕ) (s : State)
      → marks_command capacity p1 (view z (marks_command capacity p1 b s) b) (veil_state z s)
      ≡ marks_command capacity p1 b s
  unfolding marks_command
  told_command capacity p1 b s =
      rw (length_view z (marks_by front later (fed b s)) b, hides_fed z later b s)
      (told_by front later (λ left t. rw (length_view z (later left t) left)
      (told_walk (length left) capacity (length b) p1 left t)) (fed b s))
    where
      front : List Mark
      front = seens (missing_in s.load.running.pending)

      later : List ℕ → State → List Mark
      later left t = marks_walk (length left) capacity (length b) p1 left t

  -- a record's view: still of a walked STORE DATA, and of the same marks
  told_data : (c : Card) (a r : List ℕ) → Walks r c
      → marks_data (veil z c) a (view z (seens 4 ++ marks_data c a r) r) ≡ marks_data c a r
  told_data c a r w =
      let ms = marks_command c.chip.capacity (byte_at r 1) (part r 4 (byte_at r 3)) (state_in c a) in
      rw (data_seen z ms r, first z ms r 1 (lit< tt), first z ms r 3 (lit< tt))
      (ap (take (byte_at r 3)) (told_command c.chip.capacity (byte_at r 1) (part r 4 (byte_at r 3)) (state_in c a)))

  told_walked : (c : Card) (a r : List ℕ) → Walks r c
      → (padded_zero (view z (seens 4 ++ marks_data c a r) r) && walked
      (event_in (view z (seens 4 ++ marks_data c a r) r)) (veil z c)) ≡ true
  told_walked c a r w =
      let ms = marks_command c.chip.capacity (byte_at r 1) (part r 4 (byte_at r 3)) (state_in c a) in
      rw (padded_seen z ms r w.padded, first z ms r 0 (lit< tt), w.kind, w.selected, w.at_07)

  pub told_record : (c : Card) (a r : List ℕ) → marks_in (veil z c) a (view_record z c a r) ≡ marks_in c a r
  unfolding marks_in
  told_record c a r =
      by_cond (λ (ms : List Mark). marks_in (veil z c) a (view z ms r) ≡ ms) (padded_zero r && walked (event_in r) c)
      (λ e. let w = walks r c e in rw (told_walked c a r w) (ap (λ (ms : List Mark). seens 4 ++ ms)
      (told_data c a r w)))
      (λ e. unfold view in rw e)

  pub told_session : (c : Card) (a : List ℕ) (rs : List (List ℕ))
      → marks_from (veil z c) a (views_from z in_session c a rs) ≡ marks_from c a rs
  unfolding marks_from views_from
  told_session c a [] = refl
  told_session c a (r ∷ rs) =
      let t = turn_of c a r in
      ap₂ {C = List (List Mark)} (λ m l. m ∷ l) (told_record c a r)
      (ap (λ (u : Turn). marks_from u.card u.area (views_from z in_session t.card t.area rs))
      (hides_turn z c a r) ∙ told_session t.card t.area rs)

  -- sessions that look alike have their secrets at the same places
  pub same_marks : (c d : Card) (a : List ℕ) (x y : List (List ℕ)) → veil z c ≡ veil z d
      → views_from z in_session c a x ≡ views_from z in_session d a y → marks_from c a x ≡ marks_from d a y
  same_marks c d a x y cards views =
      sym (told_session c a x) ∙ ap₂ (λ (s : Card) (l : List (List ℕ)). marks_from s a l) cards views ∙ told_session d
      a y
