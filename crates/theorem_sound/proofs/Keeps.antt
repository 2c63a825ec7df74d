-- INSIDE A COMMAND SOUND IS KEPT: whichever way a rule ends, the state is sound and the file area as long as before.
-- The card is at '07' and selected: a card that takes a command is.
use Prim.Native.Nat.{ℕ, ◌≤◌, ◌-◌}
use mathlib.Core.Path.{◌≡◌, refl, ap, sym, ◌∙◌, subst}
use mathlib.Core.Bool.{true, false}
use mathlib.Core.List.{List}
use lib.ListN.{length}
use native.Mathlib.Omega.{arith}
use Rattle.model.specs.declared.Life.{Life}
use Rattle.model.specs.declared.Head.{Head}
use Rattle.model.specs.declared.Open.TheVariants.{Shut, Table}
use Rattle.model.specs.Rows.{row_at}
use Rattle.model.specs.Loads.{State, file_list, with_open}
use Rattle.model.specs.Rules.{Result, opened_as, table_bytes, fed, spanned, whole, rule_h, grouping}
use Rattle.model.specs.Command.{is_shut, walk, the_end, command}
use Rattle.model.specs.Sound.{pending_fits}
use Rattle.theorem_sound.specs.Keeps.{Kept, Keeps, Onward, GoesOn, Ruled}
use Rattle.theorem_sound.proofs.Ends.{ends_weaken}
use Rattle.theorem_sound.proofs.Parts.{sound_parts}
use Rattle.theorem_sound.proofs.Inside.{Staying, fits_same, Steady, Personal, steady_of, kept_of_lem}
use Rattle.theorem_sound.proofs.RowFacts.{room_most}
use Rattle.model.proofs.Laws.{length_most}
use Rattle.theorem_sound.proofs.Feeding.{Misses, Fed, table_bytes_fed}
use Rattle.theorem_sound.proofs.Feeds.{Going, Walks, some_table, fed_walks}
use Rattle.theorem_sound.proofs.Groupings.{Closed, opening, spans_open, shut_is, steady_closed, whole_walks}
use Rattle.theorem_sound.proofs.Groupings.{spanned_walks, rule_h_walks}
use Rattle.theorem_sound.proofs.Walks.{grouping_walks, walk_steady, the_end_steady, command_steady}

-- going on is keeping
goes_keeps : (f : Life) (n : ℕ) (r : Result (List ℕ)) → GoesOn f n r → Keeps f n r
goes_keeps f n r h = ends_weaken (λ left s. Onward f n left s) (λ left s. Kept f n s) (Kept f n) (Kept f n) r
    (λ a t z. z.kept) (λ t z. z) h

module _ (f : Life) (n : ℕ) (g : f.gp ≡ 0x07) (x : f.selected ≡ true) where
  -- the life of a card in a sound state
  life : (s : State) → Kept f n s → Personal f
  life s y = record { gp = g; selected = x; name = (sound_parts f s.load y.sound).name }

  steady : (s : State) → Kept f n s → Steady n s
  steady s y = steady_of f n s g y

  closed : (s : State) → Kept f n s → s.load.running.pending ≡ Shut → Closed n s
  closed s y e = steady_closed n s (steady s y) (ap is_shut e)

  keeps : {A : Type 0} (r : Result A) → Personal f → Staying n r → Keeps f n r
  keeps r p h = ends_weaken (λ a t. Steady n t) (λ a t. Kept f n t) (Steady n) (Kept f n) r
      (λ a t z. kept_of_lem f n t p z) (λ t z. kept_of_lem f n t p z) h

  goes : (r : Result (List ℕ)) → Personal f → Going n r → GoesOn f n r
  goes r p h =
      ends_weaken (λ left t. Walks n left t) (λ left t. Onward f n left t) (Steady n) (Kept f n) r
      (λ left t z. record {
        kept = kept_of_lem f n t p z.steady;
        shut = λ l. shut_is t.load.running.pending
            (z.shut l);
      })
      (λ t z. kept_of_lem f n t p z) h

  -- bytes that an open '3100' misses
  pub table_bytes_keeps : (v : List ℕ) (held missing : ℕ) (s : State) → Kept f n s
      → s.load.running.pending ≡ Table held missing → length v ≤ missing
      → Keeps f n (table_bytes v s)
  table_bytes_keeps v held missing s y e l =
      keeps (table_bytes v s) (life s y)
      (ends_weaken (λ a t. Fed n (missing - length v) t) (λ a t. Steady n t) (Steady n) (Steady n) (table_bytes v s)
      (λ a t z. z.steady) (λ t z. z)
      (table_bytes_fed v n missing s (record { steady = steady s y; misses = subst (Misses missing) (sym e) refl }) l))

  pub fed_goes : (bytes : List ℕ) (s : State) → Kept f n s → GoesOn f n (fed bytes s)
  fed_goes bytes s y =
      let z = steady s y in
      goes (fed bytes s) (life s y) (fed_walks n bytes s (some_table s.load.running.pending z.some) z.area
      z.inside)

  -- where rules a to g have passed a value that spans, it fits once it is open, also an empty one, which is closed at
  -- once
  pub opened_fits : (row room : ℕ) (h : Head) (s : State) → Kept f n s → s.load.running.pending ≡ Shut
      → Ruled s h row room → (row_at row).spans ≡ true
      → pending_fits (opened_as row h.tag h.len)
      (with_open (opened_as row h.tag h.len) s.load.held s.load) ≡ true
  opened_fits row room h s y e r p =
      fits_same (opened_as row h.tag h.len) (opening row h s).load ∙ (spans_open n room h s row p
      (closed s y e) r).inside.fits

  pub spanned_goes : (row room : ℕ) (h : Head) (bytes : List ℕ) (s : State) → Kept f n s
      → s.load.running.pending ≡ Shut → Ruled s h row room
      → (row_at row).spans ≡ true → GoesOn f n (spanned row h bytes s)
  spanned_goes row room h bytes s y e r p = goes (spanned row h bytes s) (life s y)
      (spanned_walks n room h bytes s row p (closed s y e) r)

  pub whole_goes : (capacity row room : ℕ) (h : Head) (bytes : List ℕ) (s : State) → Kept f n s
      → s.load.running.pending ≡ Shut → Ruled s h row room
      → (row_at row).spans ≡ false → GoesOn f n (whole capacity row h bytes s)
  whole_goes capacity row room h bytes s y e r p =
      goes (whole capacity row h bytes s) (life s y)
      (whole_walks n capacity row h bytes s r.least r.most p
      (omega (
        arith,
        length_most row room h.len r.fitting,
        room_most (file_list s.load) h.tag room row r.least r.most p r.roomed,
      ))
      (closed s y e))

  pub rule_h_goes : (capacity row room : ℕ) (h : Head) (bytes : List ℕ) (s : State) → Kept f n s
      → s.load.running.pending ≡ Shut → Ruled s h row room
      → GoesOn f n (rule_h capacity row h bytes s)
  rule_h_goes capacity row room h bytes s y e r =
      goes (rule_h capacity row h bytes s) (life s y) (rule_h_walks n capacity row room h bytes s (closed s y e) r)

  pub grouping_goes : (capacity m p1 : ℕ) (bytes : List ℕ) (s : State) → Kept f n s → s.load.running.pending ≡ Shut
      → GoesOn f n (grouping capacity m p1 bytes s)
  grouping_goes capacity m p1 bytes s y e = goes (grouping capacity m p1 bytes s) (life s y)
      (grouping_walks n capacity m p1 bytes s (closed s y e))

  pub fed_keeps : (bytes : List ℕ) (s : State) → Kept f n s → Keeps f n (fed bytes s)
  fed_keeps bytes s y = goes_keeps f n (fed bytes s) (fed_goes bytes s y)

  pub spanned_keeps : (row room : ℕ) (h : Head) (bytes : List ℕ) (s : State) → Kept f n s
      → s.load.running.pending ≡ Shut → Ruled s h row room
      → (row_at row).spans ≡ true → Keeps f n (spanned row h bytes s)
  spanned_keeps row room h bytes s y e r p = goes_keeps f n (spanned row h bytes s)
      (spanned_goes row room h bytes s y e r p)

  pub whole_keeps : (capacity row room : ℕ) (h : Head) (bytes : List ℕ) (s : State) → Kept f n s
      → s.load.running.pending ≡ Shut → Ruled s h row room
      → (row_at row).spans ≡ false → Keeps f n (whole capacity row h bytes s)
  whole_keeps capacity row room h bytes s y e r p =
      goes_keeps f n (whole capacity row h bytes s) (whole_goes capacity row room h bytes s y e r p)

  pub grouping_keeps : (capacity m p1 : ℕ) (bytes : List ℕ) (s : State) → Kept f n s
      → s.load.running.pending ≡ Shut → Keeps f n (grouping capacity m p1 bytes s)
  grouping_keeps capacity m p1 bytes s y e = goes_keeps f n (grouping capacity m p1 bytes s)
      (grouping_goes capacity m p1 bytes s y e)

  pub walk_keeps : (fuel capacity m p1 : ℕ) (bytes : List ℕ) (s : State) → Onward f n bytes s
      → Keeps f n (walk fuel capacity m p1 bytes s)
  walk_keeps fuel capacity m p1 bytes s w =
      keeps (walk fuel capacity m p1 bytes s) (life s w.kept)
      (walk_steady fuel n capacity m p1 bytes s
      (record { steady = steady s w.kept; shut = λ l. ap is_shut (w.shut l) }))

  pub the_end_keeps : (p1 : ℕ) (s : State) → Kept f n s → Keeps f n (the_end p1 s)
  the_end_keeps p1 s y = keeps (the_end p1 s) (life s y) (the_end_steady n p1 s (steady s y))

  pub command_keeps : (capacity p1 : ℕ) (bytes : List ℕ) (s : State) → Kept f n s
      → Keeps f n (command capacity p1 bytes s)
  command_keeps capacity p1 bytes s y = keeps (command capacity p1 bytes s) (life s y)
      (command_steady n capacity p1 bytes s (steady s y))
