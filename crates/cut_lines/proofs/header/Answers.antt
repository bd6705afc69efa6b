-- `header`: with room, the header; without, nothing. Assumes nothing.
use Rattle.std.proofs.Common.{sym, arith}
use Rattle.cut_lines.proofs.Putting.{wrote}
use Rattle.cut_lines.proofs.header.Goals as goal

pub returns : goal.returns
returns c = wrote (sym c.in_ok-need_room.ensures) (omega arith) c.put_bytes.ensures
