-- A REASON EXACTLY WHERE THE ORDER IS NOT COMPLETE.
use Prim.Native.Nat.{ℕ, zero, suc, ◌+◌}
use mathlib.Core.Path.{◌≡◌, refl}
use mathlib.Core.Bool.{Bool, true, false, cond}
use mathlib.Core.List.{List, [], ◌∷◌}
use lib.ListN.{length}
use Rattle.model.specs.Loads.{State}
use Rattle.model.specs.Rules.{Result, went, asked, failed, thence, grouping}
use Rattle.model.specs.Command.{walk, ready}
use Rattle.model.specs.Order.{finished, complete, challenged_state}
use Rattle.reason_stops.specs.declared.Stop.{Stop}
use Rattle.reason_why.specs.declared.Why.{Why}
use Rattle.reason_why.specs.declared.Why.TheVariants.{Complete, Stops}
use Rattle.reason_why.specs.Reasons.{end_stop, at_end, stops_at, why_on, place_of, why_from, why_not, is_complete}

ended : (b : Bool) (x : Stop) → is_complete (cond b Complete (Stops x)) ≡ b
ended true x = refl
ended false x = refl

end_so : (n place : ℕ) (s : State) → is_complete (at_end n place s) ≡ finished (went 0 s)
unfolding at_end
end_so n place s = ended (ready s) (end_stop n place s)

-- one grouping: the two go on alike
step_so : (later : List ℕ → State → Why) (after : List ℕ → State → Result ℕ)
    → ((left : List ℕ) (t : State) → is_complete (later left t) ≡ finished (after left t))
    → (n : ℕ) (bytes : List ℕ) (r : Result (List ℕ)) → is_complete (why_on later n bytes r) ≡ finished (thence r after)
unfolding stops_at
step_so later after e n bytes (went left t) = e left t
step_so later after e n bytes (asked tag t) = refl
step_so later after e n bytes (failed w t) = refl

walk_so : (fuel capacity n place : ℕ) (bytes : List ℕ) (s : State)
    → is_complete (why_from fuel capacity n place bytes s) ≡ finished (walk fuel capacity n 0x00 bytes s)
unfolding why_from walk
walk_so zero capacity n place bytes s = end_so n place s
walk_so (suc fuel) capacity n place [] s = end_so n place s
walk_so (suc fuel) capacity n place (b ∷ bs) s =
    step_so (λ left t. why_from fuel capacity n (place_of n (b ∷ bs)) left t)
    (λ left t. walk fuel capacity n 0x00 left t)
    (λ left t. walk_so fuel capacity n (place_of n (b ∷ bs)) left t) n (b ∷ bs) (grouping capacity n 0x00 (b ∷ bs) s)

pub why_not_complete : (capacity : ℕ) (order : List ℕ) → is_complete (why_not capacity order) ≡ complete capacity order
unfolding why_not complete
why_not_complete capacity order = walk_so (length order) capacity (3 + length order) 0 order challenged_state
