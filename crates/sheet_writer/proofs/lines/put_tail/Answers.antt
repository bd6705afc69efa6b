-- `put_tail`: a tab, the rights and a newline, one after the other. Assumes nothing.
use Rattle.text.proofs.Putting.{puts_then}
use Rattle.sheet_writer.proofs.lines.put_tail.Goals as goal

pub returns : goal.returns
returns c =
    puts_then c.put_byte-a.ensures (puts_then c.put_rights-b.ensures c.put_byte.ensures)
