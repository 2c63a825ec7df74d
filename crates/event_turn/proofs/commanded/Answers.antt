-- `event_turn::commanded`: STORE DATA with data is a command (`data_command`), which is the walk over all its bytes
-- (`command_all`); `answered` says that `lay_end` lays the answer of the card that is left.
use Prim.Native.Nat.{ℕ}
use mathlib.Core.Path.{◌≡◌, refl, ap, sym, ◌∙◌}
use native.Mathlib.Omega.{arith}
use lib.ListN.{length}
use Rattle.lists.specs.Over.{overwrite}
use Rattle.model.specs.Rules.{Result, thence}
use Rattle.model.specs.Command.{the_end}
use Rattle.model.specs.Events.{store_data, commanded}
use Rattle.walk_course.specs.Steps.{state_of}
use Rattle.walk_step.proofs.Paces.{command_all}
use Rattle.walk_command.specs.Ends.{end_of}
use Rattle.event_replies.proofs.Named.{good_steady}
use Rattle.event_replies.proofs.ByKind.{data_command}
use Rattle.event_turn.proofs.Answered.{answered}
use Rattle.event_turn.proofs.commanded.Goals as goal

pub walked-e-requires : goal.walked-e-requires
walked-e-requires c =
    let q = c.requires in
    (omega arith, good_steady _ _ q.0 q.2)

pub lay_end-requires : goal.lay_end-requires
lay_end-requires c =
    c.requires.1

pub returns : goal.returns
returns c =
    let s = c in
    let w = c.walked-e in
    let x = c.settled-x in
    let l = w.result.load in
    let a = w.new.area in
    let d = s.args.d.now in
    let k = c.settled_card-card.ensures in
    let t : store_data s.args.p1 d s.args.c s.args.area.now
    ≡ commanded s.args.c (thence (end_of w.result.end (state_of l a)) (λ k. the_end s.args.p1)) =
    data_command 2 s.args.p1 d s.args.c s.args.area.now s.requires.2
    (λ q. absurd (omega (arith, s.requires.3)))
    ∙ ap (commanded s.args.c) (command_all s.args.c.chip.capacity s.args.p1 0 d
    (state_of s.args.c.loading s.args.area.now) s.requires.3
    ∙ ap (λ (y : Result ℕ). thence y (λ k. the_end s.args.p1)) (sym w.ensures.ends)) in
    let z = x.ensures s.args.c l a in
    let v = answered w.result.end s.args.c _ l a s.args.p1 (k ∙ z.leaves) in (
      refl,
      rw t (record {
        says = z.says;
        counts = c.lay_end.ensures.0 ∙ ap length v;
        leaves = k ∙ z.leaves;
        keeps = z.keeps;
        writes = c.lay_end.ensures.1 ∙ ap (overwrite s.args.answer.now 0) v;
      }),
    )
