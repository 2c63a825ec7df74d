-- The reason is read off the card's walk: how it ended, where its last grouping began, and the state that it left.
use Prim.Native.Nat.{ℕ, zero, suc, ◌+◌, ◌-◌, ◌≤◌, ◌<◌}
use mathlib.Core.Path.{◌≡◌, refl, ap, ◌∙◌}
use mathlib.Core.List.{List, [], ◌∷◌, ◌++◌}
use native.Mathlib.Omega.{arith}
use lib.ListN.{length, drop, length-drop, length-append}
use Rattle.lists.specs.Bytes.{zeros}
use Rattle.model.specs.declared.Loading.{Loading}
use Rattle.model.specs.Stored.{area_size}
use Rattle.model.specs.Loads.{State, file_list}
use Rattle.model.specs.Rules.{Result, went, asked, failed, grouping}
use Rattle.model.specs.Order.{challenged_state}
use Rattle.walk_course.specs.Steps.{state_of}
use Rattle.walk_step.specs.Paces.{Paced, paced_on, paced, onward}
use Rattle.walk_command.specs.declared.End.{End}
use Rattle.walk_command.specs.Ends.{end_of, Walked}
use Rattle.reason_stops.specs.Stops.{stop_of}
use Rattle.order_complete.proofs.Complete.{front}
use Rattle.reason_why.specs.declared.Why.{Why}
use Rattle.reason_why.specs.declared.Why.TheVariants.{Stops}
use Rattle.reason_why.specs.Reasons.{at_end, stops_at, why_on, why_from, why_not}
use Rattle.reason_why.proofs.Left.{Rest, Leaves, grouping_leaves, placed}

-- the grouping at a place in the data is not taken
abbrev pub stop_in : List ℕ → ℕ → ℕ → State → Why
stop_in d w at t = Stops (stop_of t.load.running.rows t.load.running.last (file_list t.load)
    t.load.count w (at - 3) (drop at d))

-- this is the reason by the end of a walk whose last grouping began at a place; the place lies behind '9484'
abbrev pub Tells : List ℕ → Why → ℕ → Result ℕ → Type 0
Tells d y at (went k t) = (3 ≤ at) × (y ≡ at_end (length d) (at - 3) t)
Tells d y at (asked q t) = (3 ≤ at) × (at < length d) × (y ≡ stop_in d 0x9000 at t)
Tells d y at (failed w t) = (3 ≤ at) × (at < length d) × (y ≡ stop_in d w at t)

module _ (capacity : ℕ) (d : List ℕ) where
  -- one grouping at a place: what follows it tells the reason, or it stops there
  step_tells : (later : List ℕ → State → Why) (walks : List ℕ → State → Paced) (at b : ℕ) (bs : List ℕ)
      (x : Rest d (b ∷ bs)) → at ≡ length d - length (b ∷ bs)
      → ((left : List ℕ) (t : State) → Rest d left
      → Tells d (later left t) (walks left t).place (walks left t).result)
      → (r : Result (List ℕ)) → Leaves d r → Tells d (why_on later (length d) (b ∷ bs) r) (paced_on walks at r).place
      (paced_on walks at r).result
  unfolding stops_at
  step_tells later walks at b bs x e f (went left t) z = f left t z
  step_tells later walks at b bs x e f (asked q t) z =
      let g = placed d b bs x in
      let p : at ≡ x.from = e ∙ g.0 in
      (omega arith, omega arith, rw (← e, x.same, p))
  step_tells later walks at b bs x e f (failed w t) z =
      let g = placed d b bs x in
      let p : at ≡ x.from = e ∙ g.0 in
      (omega arith, omega arith, rw (← e, x.same, p))

  -- THE REASON IS READ OFF THE WALK
  walk_tells : (fuel at : ℕ) (bytes : List ℕ) (s : State) → 3 ≤ at → Rest d bytes
      → Tells d (why_from fuel capacity (length d) (at - 3) bytes s)
      (paced fuel capacity (length d) 0x00 at bytes s).place
      (paced fuel capacity (length d) 0x00 at bytes s).result
  unfolding why_from paced
  walk_tells zero at bytes s h x = (h, refl)
  walk_tells (suc fuel) at [] s h x = (h, refl)
  walk_tells (suc fuel) at (b ∷ bs) s h x =
      let i : ℕ = length d - length (b ∷ bs) in
      let p : i ≡ x.from = (placed d b bs x).0 in
      step_tells (λ left t. why_from fuel capacity (length d) (i - 3) left t)
      (λ left t. paced fuel capacity (length d) 0x00 i left t) i b bs x refl
      (λ left t z. walk_tells fuel i left t (omega arith) z) (grouping capacity (length d) 0x00 (b ∷ bs) s)
      (grouping_leaves d capacity (length d) 0x00 (b ∷ bs) s x)

-- nothing is open at first
begins : (capacity n : ℕ) (bytes : List ℕ) → onward capacity n 0x00 3 bytes challenged_state
    ≡ paced (length bytes) capacity n 0x00 3 bytes challenged_state
unfolding onward paced
begins capacity n [] = refl
begins capacity n (b ∷ bs) = refl

-- what the card's walk came to, from that start
pub walked_tells : (capacity : ℕ) (d : List ℕ) (start : Loading) → start ≡ challenged_state.load
    → (end : End) (place : ℕ) (load : Loading) (area : List ℕ)
    → Walked end place load area (onward capacity (length d) 0x00 3 (drop 3 d) (state_of start (zeros area_size)))
    → (x : End) → end ≡ x → Tells d (why_from (length d - 3) capacity (length d) 0 (drop 3 d) challenged_state) place
    (end_of x (state_of load area))
walked_tells capacity d start e end place load area w x f =
    let g : onward capacity (length d) 0x00 3 (drop 3 d) (state_of start (zeros area_size))
    ≡ paced (length d - 3) capacity (length d) 0x00 3 (drop 3 d) challenged_state =
    rw e (begins capacity (length d) (drop 3 d) ∙ ap
    (λ (n : ℕ). paced n capacity (length d) 0x00 3 (drop 3 d) challenged_state) (length-drop 3 d)) in
    rw (← f, w.ends, w.places, g)
    (walk_tells capacity d (length d - 3) 3 (drop 3 d) challenged_state (omega arith)
    (record { from = 3; behind = omega arith; same = refl }))

pub why_behind_so : (capacity : ℕ) (order : List ℕ)
    → why_from (length (front ++ order) - 3) capacity (length (front ++ order)) 0 order challenged_state
    ≡ why_not capacity order
unfolding why_not
why_behind_so capacity order = go (length (front ++ order)) (length-append front order)
  where
    go : (n : ℕ) → n ≡ 3 + length order → why_from (n - 3) capacity n 0 order challenged_state
        ≡ why_from (length order) capacity (3 + length order) 0 order challenged_state
    go n e = let f : n - 3 ≡ length order = omega arith in rw (f, e)
