-- A command as it is filled, step by step, from the place where it begins to the place where it closes.
use Prim.Native.Nat.{ℕ, ◌+◌, ◌-◌, ◌≤◌, ◌<◌}
use mathlib.Core.Path.{◌≡◌, ◌∙◌}
use mathlib.Core.List.{List, [], ◌++◌}
use native.Mathlib.Nat.{sub_self}
use native.Mathlib.Omega.{arith}
use lib.ListN.{length, take, drop, length-take, length-drop, drop_of_length-le}
use lib.Seq.{drop-drop, take-add, take-nil, drop-nil}
use borrow.Author.Tests.{lt-ltb, le-ltb}
use Rattle.lists.specs.Bytes.{part}
use Rattle.model.specs.Stored.{data_room}
use Rattle.model.specs.Order.{single, packed}
use Rattle.order_cuts.specs.declared.Place.{Place}
use Rattle.order_cuts.specs.declared.Portion.{Portion}
use Rattle.order_cuts.specs.Portions.{portion_of}
use Rattle.order_cuts.specs.Cuts.{Fitting, units_of, units_from, commands_from, Filling, Command}
use Rattle.model.proofs.Laws.{units_none}
use Rattle.order_cuts.proofs.Portioning.{Closes, Takes, Stepped, step_stepped}

-- behind the last byte there is no unit
units_end : (fuel inside : ℕ) → units_of fuel inside [] ≡ []
unfolding single
units_end fuel inside = rw (take-nil inside, drop-nil inside) (units_none fuel)

pub fill_starts : (order : List ℕ) (start : Place) → start.at ≤ length order → Fitting (units_from order start)
    → Filling order start start
fill_starts order start l f =
    record { forth = omega arith; within = l; room = omega arith; goes = rw (sub_self start.at); fitting = f }

module _ (order : List ℕ) (start now : Place) (x : Filling order start now) where
  abbrev filled : List ℕ
  filled = part order start.at (now.at - start.at)

  length_filled : length filled ≡ now.at - start.at
  length_filled =
      let a : start.at ≤ now.at = x.forth in
      let b : now.at ≤ length order = x.within in
      simp (length-take, length-drop) (omega arith)

  abbrev room_left : ℕ
  room_left = data_room - (now.at - start.at)

  abbrev next_step : Portion
  next_step = portion_of (drop now.at order) now.inside room_left

  filled_steps : now.at < length order
      → Stepped (length order) filled (drop now.at order) (units_from order now) next_step
  unfolding units_from
  filled_steps l =
      let a : length filled ≡ now.at - start.at = length_filled in
      let b : length (drop now.at order) ≡ length order - now.at = length-drop now.at order in
      let r : now.at ≤ start.at + data_room = x.room in
      step_stepped (length order) filled (drop now.at order) now.inside room_left (omega arith) (omega arith)
      (omega arith) x.fitting

  -- what a step takes lies behind what the command has
  filled_more : (k : ℕ) → filled ++ take k (drop now.at order) ≡ part order start.at (now.at + k - start.at)
  filled_more k =
      let a : start.at ≤ now.at = x.forth in
      let e : now.at + k - start.at ≡ (now.at - start.at) + k = omega arith in
      let f : start.at + (now.at - start.at) ≡ now.at = omega arith in
      rw (
        e,
        take-add (now.at - start.at) k (drop start.at order),
        drop-drop (now.at - start.at) start.at order,
        f,
      )

  fill_takes : Takes (length order) filled (drop now.at order) (units_from order now) next_step
      → Filling order start (record { at = now.at + next_step.taken; inside = next_step.inside })
  unfolding units_from
  fill_takes t =
      let a : length filled ≡ now.at - start.at = length_filled in
      let b : length (drop now.at order) ≡ length order - now.at = length-drop now.at order in
      let g : now.at ≤ length order = x.within in
      let p : start.at ≤ now.at = x.forth in
      let r : length filled + next_step.taken ≤ data_room = t.room in
      let h : next_step.taken ≤ length (drop now.at order) = t.there in
      let d : drop next_step.taken (drop now.at order) ≡ drop (now.at + next_step.taken) order =
      drop-drop next_step.taken now.at order in
      record {
        forth = omega arith;
        within = omega arith;
        room = omega arith;
        goes = x.goes ∙ t.goes ∙ rw (filled_more next_step.taken, d);
        fitting = rw d at t.fitting;
      }

  pub fill_more : (s : Portion) → s ≡ next_step → now.at < length order → (s.taken ≡ 0 → ⊥)
      → Filling order start (record { at = now.at + s.taken; inside = s.inside })
  fill_more s e l n = rw e (fill_takes ((filled_steps l).1 (rw e at (let p : 0 < s.taken = omega arith in p))))

  -- the next unit doesn't fit
  pub fill_closes : (s : Portion) → s ≡ next_step → now.at < length order → s.taken ≡ 0 → Command order start now
  unfolding commands_from
  fill_closes s e l z =
      let c : Closes filled (units_from order now) = (filled_steps l).0 (rw e at z) in
      let a : length filled ≡ now.at - start.at = length_filled in
      let b : 0 < length filled = c.begun in
      record {
        forth = x.forth;
        within = x.within;
        room = x.room;
        moves = λ q. omega arith;
        cut = x.goes ∙ c.cut ∙ rw (lt-ltb now.at (length order) l);
        fitting = x.fitting;
      }

  -- the order ends
  pub fill_ends : length order ≤ now.at → Command order start now
  unfolding commands_from units_from packed
  fill_ends l =
      record {
        forth = x.forth;
        within = x.within;
        room = x.room;
        moves = λ q. omega arith;
        cut = x.goes ∙ rw (
          le-ltb now.at (length order) l,
          drop_of_length-le order l,
          units_end (length order) now.inside,
        );
        fitting = x.fitting;
      }
