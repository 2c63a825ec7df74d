-- The file contents after a complete order, uncut and cut.
use Prim.Native.Nat.{ℕ, zero, suc, ◌+◌, ◌-◌, ◌≤◌, ◌<◌}
use mathlib.Core.Path.{◌≡◌, refl, sym, ap, ◌∙◌, subst}
use mathlib.Core.Bool.{Bool, true, false, cond, not}
use mathlib.Core.List.{List, [], ◌∷◌, ◌++◌, append-nil, append_assoc}
use native.Mathlib.Omega.{arith}
use native.Mathlib.Nat.{le_refl}
use lib.Dec.{eqb, lit≤}
use lib.ListN.{length, get_or, length-replicate, take, drop, length-take, length-drop, drop_of_length-le}
use lib.Seq.{drop-drop}
use Rattle.lists.specs.Joined.{joined}
use Rattle.lists.specs.Bytes.{zeros}
use Rattle.model.specs.declared.Descriptor.{Descriptor}
use Rattle.model.specs.declared.Spot.TheVariants.{At}
use Rattle.model.specs.declared.Head.{Head}
use Rattle.model.specs.declared.Header.TheVariants.{Whole}
use Rattle.model.specs.declared.Chip.{Chip}
use Rattle.model.specs.Stored.{area_size, chip_of, fresh_card}
use Rattle.model.specs.Rows.{row_of, mandatory_missing}
use Rattle.model.specs.Header.{header_of}
use Rattle.model.specs.Table.{total}
use Rattle.model.specs.Loads.{State, file_list, with_internal, changed}
use Rattle.model.specs.Rules.{Result, went, asked, failed, tag_spot, record_done, grouping}
use Rattle.model.specs.Command.{walk, ready}
use Rattle.model.specs.Session.{fresh_of, Session, run_of}
use Rattle.model.specs.Order.{challenged_state, finished, complete, records_for, write_of}
use Rattle.theorem_cutting.specs.Job.{Front, state_of, uncut}
use Rattle.theorem_cutting.specs.Contents.{Grouped, grouped_in, ssnn_of, values_of, Each, Contents}
use Rattle.theorem_cutting.proofs.Heads.{Long, header_long}
use Rattle.theorem_cutting.proofs.Commands.{finished_ready}
use Rattle.theorem_cutting.proofs.Taken.{cut_same_end}
use Rattle.theorem_cutting.proofs.Writes.{fresh_form, by_writing}
use Rattle.theorem_cutting.proofs.Laid.{outside_all, zeros_get, length_all, kept_all}
use Rattle.theorem_cutting.proofs.Passed.{both, Passed, grouping_passed}
use Rattle.theorem_cutting.proofs.Listed.{Fits, Gives, Leaving, early_row, before_stays}
use Rattle.theorem_cutting.proofs.Filled.{Filled, Seen, early, late, seen_filled, due_none, taken_high, g}
use Rattle.theorem_cutting.proofs.Filled.{after, record_passed, seen_more}
use Rattle.lists.specs.Truth.{and_r, never}

-- the groupings from a whole header on
grouped_more : (fuel b : ℕ) (bs : List ℕ) (h : Head) → header_of (b ∷ bs) ≡ Whole h
    → grouped_in (suc fuel) (b ∷ bs) ≡ record { tag = h.tag; bytes = take h.len (drop h.size (b ∷ bs)) } ∷
    grouped_in fuel (drop h.len (drop h.size (b ∷ bs)))
unfolding grouped_in
grouped_more fuel b bs h q = rw (q, drop-drop h.len h.size (b ∷ bs))

ssnn_more : (x : Bool) (y : Grouped) (ys : List Grouped) → eqb (row_of y.tag) 11 ≡ x
    → ssnn_of (y ∷ ys) ≡ cond x (y ∷ ssnn_of ys) (ssnn_of ys)
unfolding ssnn_of
ssnn_more x y ys q = ap (λ (z : Bool). cond z (y ∷ ssnn_of ys) (ssnn_of ys)) q

values_more : (fuel b : ℕ) (bs : List ℕ) (h : Head) (x : Bool) → header_of (b ∷ bs) ≡ Whole h
    → eqb (row_of h.tag) 11 ≡ x
    → ssnn_of (grouped_in (suc fuel) (b ∷ bs))
    ≡ cond x (record { tag = h.tag; bytes = take h.len (drop h.size (b ∷ bs)) } ∷ ssnn_of
    (grouped_in fuel (drop h.len (drop h.size (b ∷ bs)))))
    (ssnn_of (grouped_in fuel (drop h.len (drop h.size (b ∷ bs)))))
values_more fuel b bs h x e q =
    ap ssnn_of (grouped_more fuel b bs h e)
    ∙ ssnn_more x (record { tag = h.tag; bytes = take h.len (drop h.size (b ∷ bs)) })
    (grouped_in fuel (drop h.len (drop h.size (b ∷ bs)))) q

-- no bytes, no change
walk_stops : (fuel capacity n p1 m : ℕ) (s s' : State) → walk fuel capacity n p1 [] s ≡ went m s' → s ≡ s'
unfolding walk
walk_stops zero capacity n p1 m s s' e = cc
walk_stops (suc fuel) capacity n p1 m s s' e = cc

-- a record's bytes leave the table as it is; where some are missing, the card is not ready
fits_after : (capacity : ℕ) (h : Head) (rest : List ℕ) (s : State) (k : ℕ) → Fits s.load.files s.load.count
    → Fits (after capacity h rest s k).load.files (after capacity h rest s k).load.count
unfolding record_done
fits_after capacity h rest s zero f = f
fits_after capacity h rest s (suc k) f = f

open_unready : (capacity : ℕ) (h : Head) (rest : List ℕ) (s : State) (k : ℕ)
    → ready (after capacity h rest s (suc k)) ≡ true → ⊥
unfolding ready record_done
open_unready capacity h rest s k e = never (and_r (not (mandatory_missing s.load.running.rows)) false e)

-- what a walk that ends ready has seen
record Ended (s : State) (gs : List Grouped) : Type 0 where
  seen : Seen s gs
  fits : Fits s.load.files s.load.count

abbrev Goes : ℕ → ℕ → ℕ → ℕ → State → Type 0
Goes fuel capacity n p1 s' = (left : List ℕ) (s : State) (m : ℕ) (gs : List Grouped)
    → walk fuel capacity n p1 left s ≡ went m s' → length left ≤ fuel
    → Seen s gs → Fits s.load.files s.load.count → Ended s' (gs ++ ssnn_of (grouped_in fuel left))

module _ (fuel capacity n p1 : ℕ) (s' : State) (is-ready : ready s' ≡ true) (goes : Goes fuel capacity n p1 s')
    (b : ℕ) (bs : List ℕ) (short : length bs ≤ fuel) (s : State) (gs : List Grouped)
    (fits : Fits s.load.files s.load.count) where
  left_short : (h : Head) → header_of (b ∷ bs) ≡ Whole h → length (drop h.len (drop h.size (b ∷ bs))) ≤ fuel
  left_short h q =
      let l : Long (b ∷ bs) h = header_long (b ∷ bs) h q in
      rw (length-drop h.len (drop h.size (b ∷ bs)), length-drop h.size (b ∷ bs)) (omega arith)

  -- a row before 11: the area is still zeros
  before_row : {left : List ℕ} {s₁ : State} (m : ℕ) (p : Passed capacity (b ∷ bs) s left s₁)
      → eqb (row_of p.h.tag) 11 ≡ false
      → walk fuel capacity n p1 left s₁ ≡ went m s' → Seen s gs
      → Ended s' (gs ++ ssnn_of (grouped_in fuel (drop p.h.len (drop p.h.size (b ∷ bs)))))
  before_row {left} {s₁} m p q e sn =
      let k : Leaving s.area (drop p.h.len (drop p.h.size (b ∷ bs))) left s₁ =
      subst (Gives (Leaving s.area (drop p.h.len (drop p.h.size (b ∷ bs))))) p.kept_so
      (before_stays s.area capacity p.h (drop p.h.size (b ∷ bs)) (changed (with_internal 0x5A) s) q
      (refl, fits)) in
      rw (← k.0)
      (goes left s₁ m gs e (subst (λ (x : List ℕ). length x ≤ fuel) (sym k.0) (left_short p.h p.header))
      (still sn k.1.0) k.1.1)
    where
      still : {xs : List Grouped} → Seen s xs → s₁.area ≡ s.area → Seen s₁ xs
      still (early z) a = early (a ∙ z)
      still (late t l f) a =
          let u : s.load.running.rows < 1024 =
          early_row s.load.running.rows p.h.tag q
          (due_none s.load.running.rows s.load.running.last (row_of p.h.tag) p.h.tag q
          p.due_so) in
          let v : 1024 ≤ s.load.running.rows = taken_high s.load.running.rows t in
          absurd (omega arith)

  -- row 11: its value is whole, or the walk would end with it open
  row_eleven : {left : List ℕ} {s₁ : State} (m : ℕ) (p : Passed capacity (b ∷ bs) s left s₁)
      → eqb (row_of p.h.tag) 11 ≡ true
      → walk fuel capacity n p1 left s₁ ≡ went m s' → Seen s gs → (k : ℕ)
      → p.h.len - length (take p.h.len (drop p.h.size (b ∷ bs))) ≡ k
      → Ended s' ((gs ++ (record { tag = p.h.tag; bytes = take p.h.len (drop p.h.size (b ∷ bs)) } ∷ [])) ++
      ssnn_of (grouped_in fuel (drop p.h.len (drop p.h.size (b ∷ bs)))))
  row_eleven {left} {s₁} m p q e sn zero k =
      let rest = drop p.h.size (b ∷ bs) in
      let r : (drop p.h.len rest ≡ left) × (after capacity p.h rest s
      (p.h.len - length (take p.h.len rest)) ≡ s₁) = record_passed capacity p.h rest s left s₁ q
      p.kept_so in
      let z : after capacity p.h rest s zero ≡ s₁ = ap (after capacity p.h rest s) (sym k) ∙ r.1 in
      rw r.0
      (goes left s₁ m (gs ++ (g capacity p.h rest s ∷ [])) e
      (subst (λ (x : List ℕ). length x ≤ fuel) r.0 (left_short p.h p.header))
      (subst (λ (x : State). Seen x (gs ++ (g capacity p.h rest s ∷ []))) z
      (seen_more capacity p.h rest s p.room q p.due_so p.room_so p.length_so sn))
      (subst (λ (x : State). Fits x.load.files x.load.count) z (fits_after capacity p.h rest s zero fits)))
  row_eleven {left} {s₁} m p q e sn (suc i) k =
      let rest = drop p.h.size (b ∷ bs) in
      let r : (drop p.h.len rest ≡ left) × (after capacity p.h rest s
      (p.h.len - length (take p.h.len rest)) ≡ s₁) = record_passed capacity p.h rest s left s₁ q
      p.kept_so in
      let z : after capacity p.h rest s (suc i) ≡ s₁ = ap (after capacity p.h rest s) (sym k) ∙ r.1 in
      let t : length (take p.h.len rest) ≡ Prim.Native.Nat.min p.h.len (length rest) =
      length-take p.h.len rest in
      let nil : left ≡ [] = sym r.0 ∙ drop_of_length-le rest {i = p.h.len} (omega arith) in
      let w : s₁ ≡ s' = walk_stops fuel capacity n p1 m s₁ s' (rw nil at e) in
      absurd (open_unready capacity p.h rest s i (subst (λ (x : State). ready x ≡ true) (sym (z ∙ w)) is-ready))

  -- one grouping
  one_grouping : {left : List ℕ} {s₁ : State} (m : ℕ) → Passed capacity (b ∷ bs) s left s₁
      → walk fuel capacity n p1 left s₁ ≡ went m s' → Seen s gs
      → Ended s' (gs ++ ssnn_of (grouped_in (suc fuel) (b ∷ bs)))
  one_grouping m p e sn = go (eqb (row_of p.h.tag) 11) refl
    where
      go : (x : Bool) → eqb (row_of p.h.tag) 11 ≡ x → Ended s' (gs ++ ssnn_of (grouped_in (suc fuel) (b ∷ bs)))
      go true q = rw (values_more fuel b bs p.h true p.header q)
          (rw append_assoc at (row_eleven m p q e sn _ refl))
      go false q = rw (values_more fuel b bs p.h false p.header q) (before_row m p q e sn)

ended_none : (gs : List Grouped) (s s' : State) → s ≡ s' → Seen s gs → Fits s.load.files s.load.count
    → Ended s' (gs ++ [])
ended_none gs s s' q sn f =
    rw (append-nil gs)
    (record {
      seen = subst (λ (x : State). Seen x gs) q sn;
      fits = subst
          (λ (x : State). Fits x.load.files x.load.count) q f;
    })

-- groupings end to end
ended_walk : (fuel capacity n p1 : ℕ) (s' : State) → ready s' ≡ true → Goes fuel capacity n p1 s'
unfolding walk
ended_walk zero capacity n p1 s' r [] s m gs e l sn f =
    unfold grouped_in ssnn_of in ended_none gs s s' (walk_stops zero capacity n p1 m s s' e) sn f
ended_walk zero capacity n p1 s' r (b ∷ bs) s m gs e l sn f = absurd (omega arith)
ended_walk (suc fuel) capacity n p1 s' r [] s m gs e l sn f =
    unfold grouped_in ssnn_of in ended_none gs s s' (walk_stops (suc fuel) capacity n p1 m s s' e) sn f
ended_walk (suc fuel) capacity n p1 s' r (b ∷ bs) s m gs e l sn f =
    let w = both (grouping capacity n p1 (b ∷ bs) s) (λ left. walk fuel capacity n p1 left) m s' e in
    one_grouping fuel capacity n p1 s' r (λ left s₁ i xs d k y z. ended_walk fuel capacity n p1 s' r left s₁ i xs d k
    y z) b bs (omega arith) s gs f m
    (grouping_passed capacity n p1 (b ∷ bs) s w.mid w.state w.first) w.next sn

finished_so : (r : Result ℕ) → finished r ≡ true → (m : ℕ) × (r ≡ went m (state_of r))
finished_so (went m s) h = (m, refl)
finished_so (asked t s) h = absurd (never h)
finished_so (failed w s) h = absurd (never h)

blank_zeros : (files : List Descriptor) (gs : List Grouped)
    → Each (λ (y : Grouped). (base size : ℕ) → tag_spot files y.tag ≡ At base size → (k : ℕ) → k < size
    → get_or (zeros area_size) (base + k) 0 ≡ 0) gs
blank_zeros files [] = Each.none
blank_zeros files (y ∷ gs) = Each.more (λ base size q k l. zeros_get area_size (base + k)) (blank_zeros files gs)

-- from the values laid to what each record holds
filled_contents : (files : List Descriptor) (gs : List Grouped) (area : List ℕ) → total files ≤ area_size
    → Filled files gs area → Contents files gs area
filled_contents files gs area w f =
    subst (Contents files gs) (sym f.is)
    (record {
      long = length_all files gs (zeros area_size) ∙ length-replicate {A = ℕ} area_size 0;
      values = kept_all files gs (zeros area_size)
          (subst (λ (n : ℕ). total files ≤ n) (sym (length-replicate {A = ℕ} area_size 0)) w) f.up f.placed
          (blank_zeros files gs);
      others = λ i os. outside_all files i gs (zeros area_size) f.placed os ∙ zeros_get area_size i;
    })

fits_fresh : Fits challenged_state.load.files challenged_state.load.count
unfolding total
fits_fresh = record { places = refl; used = lit≤ tt; within = lit≤ tt }

-- THE FILES: the uncut walk of a complete order leaves each 'ssnn' value in its record, and zeros elsewhere
pub complete_contents : (capacity : ℕ) (order : List ℕ) → complete capacity order ≡ true
    → Contents (file_list (uncut capacity order).load) (values_of order) (uncut capacity order).area
unfolding uncut complete values_of
complete_contents capacity order so =
    let r = walk (length order) capacity (3 + length order) 0x00 order challenged_state in
    let w : (m : ℕ) × (r ≡ went m (state_of r)) = finished_so r so in
    let e : Ended (state_of r) ([] ++ ssnn_of (grouped_in (length order) order)) =
    ended_walk (length order) capacity (3 + length order) 0x00 (state_of r) (finished_ready r so) order challenged_state
    w.0 [] w.1 (le_refl (length order)) (early refl) fits_fresh in
    filled_contents (file_list (state_of r).load) (ssnn_of (grouped_in (length order) order)) (state_of r).area
    e.fits.within (seen_filled e.seen)

-- and so does the writer's cut of it, played behind any front
pub taken_contents : {name : List ℕ} {front : List (List ℕ)} → Front name front → (chip : Chip) (a order : List ℕ)
    (room : ℕ) → complete chip.capacity order ≡ true
    → length a ≡ area_size → length (front ++ records_for order) ≤ room
    → let x = run_of (fresh_card chip) a room (joined (front ++ records_for order)) in
    Contents (file_list x.run.card.loading) (values_of order) x.run.area
taken_contents f chip a order room so la l =
    subst (λ (x : Session). Contents (file_list x.run.card.loading) (values_of order) x.run.area)
    (sym (cut_same_end f chip order so a room la l)) (complete_contents chip.capacity order so)

-- the same of whatever the writer cuts for a chip record
pub write_contents : {name : List ℕ} {front : List (List ℕ)} → Front name front → (chip a order : List ℕ)
    (room wordRoom : ℕ) → (write_of chip order room).number ≡ 0 → length a ≡ area_size
    → length (front ++ (write_of chip order room).records) ≤ wordRoom
    → let x = run_of (fresh_of chip).card a wordRoom (joined (front ++ (write_of chip order room).records)) in
    Contents (file_list x.run.card.loading) (values_of order) x.run.area
write_contents {front} f chip a order room wordRoom e la =
    by_writing (λ (rs : List (List ℕ)). length (front ++ rs) ≤ wordRoom
    → let x = run_of (fresh_of chip).card a wordRoom (joined (front ++ rs)) in
    Contents (file_list x.run.card.loading) (values_of order) x.run.area) chip order room
    (λ h l. rw (fresh_form chip h.form) (taken_contents f (chip_of chip) a order wordRoom h.complete_so la l)) e
