-- `put_name_line`: the letters and a newline, one after the other. Assumes nothing.
use Rattle.text.proofs.Putting.{puts_then}
use Rattle.sheet_compare.proofs.names.put_name_line.Goals as goal

pub returns : goal.returns
returns c =
    puts_then c.put_name-a.ensures c.put_byte.ensures
