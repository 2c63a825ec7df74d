-- What a command answers, by how its walk ended.
use Prim.Native.Nat.{ℕ}
use mathlib.Core.Path.{◌≡◌, refl, ap, sym}
use mathlib.Core.List.{List, []}
use Rattle.lists.specs.Choice.{by_cond}
use Rattle.model.specs.declared.Card.{Card}
use Rattle.model.specs.declared.Loading.{Loading}
use Rattle.model.specs.Loads.{State}
use Rattle.model.specs.Rules.{Result, thence, bit8}
use Rattle.model.specs.Command.{ready, the_end}
use Rattle.model.specs.Events.{answer_to, errs, commanded}
use Rattle.walk_course.specs.Steps.{state_of}
use Rattle.walk_command.specs.declared.End.{End}
use Rattle.walk_command.specs.declared.End.TheVariants.{Done, Asked, Failed}
use Rattle.walk_command.specs.Ends.{end_of}
use Rattle.event_turn.specs.Told.{end_answer}

end_silent : (c : Card) (p1 : ℕ) (s : State) → (commanded c (the_end p1 s)).answer ≡ []
unfolding the_end errs
end_silent c p1 s =
    by_cond (λ (r : Result ℕ). (commanded c r).answer ≡ []) (bit8 p1)
    (λ e. by_cond (λ (r : Result ℕ). (commanded c r).answer ≡ []) (ready s) (λ f. refl) (λ f. refl))
    (λ e. refl)

pub answered : (e : End) (c d : Card) (l : Loading) (a : List ℕ) (p1 : ℕ)
    → d ≡ (commanded c (thence (end_of e (state_of l a)) (λ k. the_end p1))).card
    → end_answer e d ≡ (commanded c (thence (end_of e (state_of l a)) (λ k. the_end p1))).answer
unfolding errs
answered Done c d l a p1 q = sym (end_silent c p1 (state_of l a))
answered (Asked t) c d l a p1 q = ap (answer_to t) q
answered (Failed w) c d l a p1 q = refl
