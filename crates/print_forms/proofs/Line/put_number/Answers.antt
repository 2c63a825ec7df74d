-- `print_forms::Line::put_number`: the digits lie behind the text (`number_behind`).
use Rattle.std.proofs.Common.{arith}
use Rattle.print_forms.proofs.Lines.{number_behind}
use Rattle.print_forms.proofs.Line.put_number.Goals as goal

pub returns-clause-room : goal.returns-clause-room
returns-clause-room g c h =
    let l = c.self in
    let p = c.put_number-self-inside.ensures in
    rw (p.4, p.2) (number_behind l.inside.text _ l.inside.filled g.row.N l.view_is l.invariant l.told _ c.room.ensures _
    (omega (arith, c.if-room-lt-NUMBER_LIMIT.false)) (omega (arith, p.1, p.2)))
