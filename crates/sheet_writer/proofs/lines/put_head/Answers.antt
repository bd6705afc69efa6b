-- `put_head`: the word with its tab, and the name after it. Assumes nothing.
use Rattle.text.proofs.Putting.{puts_then}
use Rattle.sheet_writer.proofs.lines.put_head.Goals as goal

pub returns : goal.returns
returns c = puts_then c.put_bytes-a.ensures c.put_name.ensures
