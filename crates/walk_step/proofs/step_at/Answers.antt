-- `walk_step::step_at`: one return a variant of what is open: a grouping where nothing is, and the table's and the
-- record's steps by `table_step` and `record_step_lem`; an open record lies somewhere (`lies`).
use mathlib.Core.Path.{ap, sym, ◌∙◌, subst}
use lib.ListN.{length, drop}
use Rattle.model.specs.declared.Open.{Open}
use Rattle.model.specs.Loads.{file_list}
use Rattle.model.specs.Rules.{tag_spot}
use Rattle.walk_course.specs.Steps.{on, Judges}
use Rattle.walk_step.specs.Turns.{Fits, turn_by}
use Rattle.walk_step.proofs.Judged.{wanted_head, table_step, record_step_lem, lies}
use Rattle.walk_step.proofs.step_at.Goals as goal

pub grouping_at-requires : goal.grouping_at-requires
grouping_at-requires c = (c.requires.1, c.requires.0)

pub record_at-requires : goal.record_at-requires
record_at-requires c =
    (c.requires.0, c.requires.1, subst (λ (o : Open). Fits o c.args.spot) c.in-Record.is c.requires.2)

pub returns-in-Shut : goal.returns-in-Shut
returns-in-Shut c =
    let b = drop c.args.at c.args.d.now in
    let e = c.in-Shut.is in
    λ l a y q. subst (λ (o : Open). Judges c.args.capacity c.grouping_at.result c.args.d.now
    c.args.at l a
    (turn_by o c.args.capacity (length c.args.d.now) c.args.p1 b (on c.args.p l a))) (sym e)
    (c.grouping_at.ensures l a
    (record { steady = y; shut = e; place = λ h f g. q ∙ ap (tag_spot (file_list l)) (wanted_head _ b h e f g) }))

pub returns-in-Table : goal.returns-in-Table
returns-in-Table c =
    λ l a y q. table_step c.args.capacity c.args.p1 c.args.at c.args.d.now c.args.p l a
    c.requires.0 y _ _ c.in-Table.is

pub returns-in-Record : goal.returns-in-Record
returns-in-Record c =
    let e = c.in-Record.is in
    let z = lies c.in-Record.tag _ _ c.args.spot
    (subst (λ (o : Open). Fits o c.args.spot) e c.requires.2) c.requires.1 in
    λ l a y q. rw (c.record_at.ensures z.base z.size z.its)
    (record_step_lem c.args.capacity c.args.p1 c.args.at c.args.d.now c.args.p l a
    c.requires.0 y _ _ _ z.base z.size e (sym (q ∙ rw e) ∙ z.its) z.fits z.within)
