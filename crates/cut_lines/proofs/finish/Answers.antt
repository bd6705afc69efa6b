-- `finish`: with room, what belongs to the end of the input; without, nothing. Assumes nothing.
use Rattle.std.proofs.Common.{sym}
use Rattle.cut_lines.proofs.Putting.{wrote}
use Rattle.cut_lines.proofs.finish.Goals as goal

pub returns : goal.returns
returns c = wrote (sym c.in_ok-need_room.ensures) c.put_last.ensures.0 c.put_last.ensures.1
