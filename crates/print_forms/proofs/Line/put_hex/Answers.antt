-- `print_forms::Line::put_hex`: the digits lie behind the text (`hex_behind`), two for each byte.
use Rattle.std.proofs.Common.{arith, length-take-le}
use Rattle.print_forms.proofs.Lines.{hex_behind}
use Rattle.print_forms.proofs.Line.put_hex.Goals as goal

pub returns : goal.returns
returns g c =
    let l = c.self in
    let p = c.put_hex-self-inside.ensures in
    rw (p.2, p.0, length-take-le c.min-n.result c.args.bytes.now (omega (arith, c.min-n.ensures)))
    (hex_behind l.inside.text _ l.inside.filled g.row.N l.view_is l.invariant l.told _ c.room.ensures _ _ c.min-n.ensures)
