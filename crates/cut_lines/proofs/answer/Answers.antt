-- `answer`: with room, what the line's bytes lead to, read from its start; without, nothing. Assumes nothing.
use Rattle.std.proofs.Common.{sym}
use Rattle.cut_lines.proofs.Putting.{wrote}
use Rattle.cut_lines.proofs.Reading.{answered_line}
use Rattle.cut_lines.proofs.answer.Goals as goal

pub returns : goal.returns
returns c =
    let a = c.args in
    let text = answered_line a.number a.line.now in
    wrote (sym c.in_ok-need_room.ensures)
    (rw (c.read_line.ensures, c.start.ensures, text) at c.put_line.ensures.0)
    (rw (c.read_line.ensures, c.start.ensures, text) at c.put_line.ensures.1)
