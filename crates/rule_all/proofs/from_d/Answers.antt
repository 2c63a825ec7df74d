-- `rule_all::from_d`: the verdict of `due_row` decides: a row that passes is 1 to 11, due and the tag's (`row_its`);
-- a word that refuses is the walk's (`d_refuses`).
use mathlib.Core.Path.{sym, ◌∙◌}
use lib.ListN.{drop}
use Rattle.walk_course.specs.Steps.{on}
use Rattle.walk_course.proofs.Chains.{d_passes, d_refuses}
use Rattle.theorem_sound.proofs.Walks.{due_row_passes}
use Rattle.rule_all.proofs.Facts.{row_its}
use Rattle.rule_all.proofs.from_d.Goals as goal

pub from_e-requires : goal.from_e-requires
from_e-requires c =
    let q = due_row_passes _ _ _ _ (sym c.due_row-verdict.ensures ∙ c.in-Passes.is)
    in
    (q.0, q.1, c.requires.0, c.requires.1, c.requires.2)

pub returns-in-Passes : goal.returns-in-Passes
returns-in-Passes c =
    let e = sym c.due_row-verdict.ensures ∙ c.in-Passes.is in
    let q = due_row_passes _ _ _ _ e in
    λ l a i k. rw (d_passes c.args.capacity c.args.h (drop c.args.at c.args.d.now)
    (on c.args.p l a) _ e)
    (c.from_e.ensures l a (record { stands = k; personal = i; row_due = q.2; its = row_its _ _ _ _ e }))

pub returns-in-Refuses : goal.returns-in-Refuses
returns-in-Refuses c =
    let e = sym c.due_row-verdict.ensures ∙ c.in-Refuses.is in
    λ l a i k. rw c.failed_by.ensures
    (record {
      comes = sym (d_refuses c.args.capacity c.args.h (drop c.args.at c.args.d.now)
          (on c.args.p l a) _ e);
      ahead = tt;
    })
