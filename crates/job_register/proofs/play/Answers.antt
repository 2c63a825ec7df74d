-- `job_register::play`: the fresh card is good in the cleared area (`fresh_keeps`), and `Session` has room for all
-- lines and END, which goes behind the last of them (`ends`).
use mathlib.Core.Path.{◌≡◌, ap}
use native.Mathlib.Omega.{arith}
use lib.ListN.{length}
use Rattle.lists.specs.Bytes.{zeros}
use Rattle.model.specs.Stored.{area_size}
use Rattle.model.specs.Session.{fresh_of, events_in}
use Rattle.register_entries.specs.Entries.{entered_of, Enters}
use Rattle.theorem_sound.proofs.Sessions.{fresh_keeps}
use Rattle.job_register.specs.Jobs.{played_of}
use Rattle.job_register.proofs.Plays.{ends, answered}
use Rattle.job_register.proofs.play.Goals as goal

pub enter_all-last-requires : goal.enter_all-last-requires
enter_all-last-requires c =
    let good = fresh_keeps c.args.chip.now in
    let area : zeros (length c.args.area.now) ≡ zeros area_size = ap zeros c.requires.full in (
      rw (
        c.fresh-made.ensures,
        c.clear.ensures,
        area,
      ) good,
      omega arith,
      omega (arith, c.requires.room),
    )

pub overflow_mul-events : goal.overflow_mul-events
overflow_mul-events c = record { fits = omega (arith, c.requires.room) }

pub put_end-requires : goal.put_end-requires
put_end-requires c = omega (arith, c.requires.room, c.enter_all-last.auto.out)

pub returns : goal.returns
unfolding played_of
returns c =
    let e = c.enter_all-last.ensures.2 in
    let x : Enters (entered_of (events_in c.args.records.now) 0 (fresh_of c.args.chip.now).card
    (zeros area_size) c.args.records.now) _ _ _ c.args.out.now _ = rw (
      c.fresh-made.ensures,
      c.clear.ensures,
      ap zeros c.requires.full,
    ) at e in
    record {
      answers = answered _ (played_of c.args.chip.now c.args.records.now) _ x.leaves;
      keeps = x.keeps;
      prints = ends c.args.chip.now c.args.records.now c.args.out.now _ _ _ _ _ x
          c.put_end.ensures;
    }
