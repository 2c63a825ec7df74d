-- `print_forms::Line::put_text`: what is laid behind the text is the text's next part (`text_behind`).
use Rattle.print_forms.proofs.Lines.{text_behind}
use Rattle.print_forms.proofs.Line.put_text.Goals as goal

pub returns : goal.returns
returns g c =
    let l = c.self in
    rw c.put_bytes.ensures (text_behind l.inside.text _ l.inside.filled g.row.N l.view_is l.invariant l.told
    _ c.room.ensures _ _ c.min-n.ensures)
