-- `put_number`: a tab, and the digits after it. Assumes nothing.
use Rattle.text.proofs.Putting.{puts_then}
use Rattle.sheet_writer.proofs.lines.put_number.Goals as goal

pub returns : goal.returns
returns c =
    puts_then c.put_byte-a.ensures (rw c.from.ensures at c.put_hex.ensures)
