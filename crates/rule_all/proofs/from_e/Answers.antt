-- `rule_all::from_e`: a place that is found lies within the file area and is the row's (`room_within`, `roomed`);
-- where there is none, rule e refuses (`unplaced`).
use mathlib.Core.Path.{sym, ◌∙◌}
use lib.ListN.{drop}
use Rattle.walk_course.specs.Steps.{on}
use Rattle.walk_course.proofs.Chains.{e_passes, e_refuses}
use Rattle.rule_all.proofs.Facts.{room_within, room_most, roomed, unplaced}
use Rattle.rule_all.proofs.from_e.Goals as goal

pub from_f-requires : goal.from_f-requires
from_f-requires c =
    let e = sym c.room_of-room.ensures ∙ c.in-At.is in (
      c.requires.0,
      c.requires.1,
      room_within _ _ _ _ e c.requires.0 c.requires.1 c.requires.2,
      room_most _ _ _ _ e,
      c.requires.3,
      c.requires.4,
    )

pub returns-in-At : goal.returns-in-At
returns-in-At c =
    let e = sym c.room_of-room.ensures ∙ c.in-At.is in
    λ l a k. let r = roomed _ _ _ _ e c.args.p c.args.h.tag l a k in
    rw (e_passes c.args.capacity c.args.row c.args.h (drop c.args.at c.args.d.now)
    (on c.args.p l a) _ r.roomed) (c.from_f.ensures l a r)

pub returns-in-Nowhere : goal.returns-in-Nowhere
returns-in-Nowhere c =
    let e = sym c.room_of-room.ensures ∙ c.in-Nowhere.is in
    λ l a k. rw c.failed_by.ensures
    (record {
      comes = sym (e_refuses c.args.capacity c.args.row c.args.h
          (drop c.args.at c.args.d.now) (on c.args.p l a) 0x6A88 (unplaced _ _ _ _ l a e k));
      ahead = tt;
    })
