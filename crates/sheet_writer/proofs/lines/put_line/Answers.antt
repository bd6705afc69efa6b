-- `put_line`: the parts of a line, one after the other. Assumes nothing.
use Rattle.text.proofs.Putting.{puts_then}
use Rattle.sheet_writer.proofs.Lists.{line_puts}
use Rattle.sheet_writer.proofs.lines.put_line.Goals as goal

pub returns : goal.returns
returns c =
    line_puts c.args.r.now
    (puts_then (puts_then (puts_then c.put_head-a.ensures c.put_number-b.ensures) c.put_number-c.ensures) c.put_tail.ensures)
