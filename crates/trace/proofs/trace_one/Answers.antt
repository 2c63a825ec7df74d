-- `trace::trace_one`: the turn leaves what the model's turn leaves, and that keeps a good card good (`turn_keeps`).
use Rattle.theorem_sound.proofs.Sessions.{turn_keeps}
use Rattle.trace.proofs.trace_one.Goals as goal

pub returns : goal.returns
returns c =
    let p = c.turn-p.ensures in
    (rw (p.leaves, p.keeps) (turn_keeps c.args.c.now c.args.area.now c.args.r.now c.requires.0), c.put_line.ensures)
