-- `put_rights`: three letters or fewer, one after the other. Assumes nothing.
use Rattle.text.proofs.Putting.{puts_then}
use Rattle.sheets.specs.Sheet.{rights_text}
use Rattle.sheet_writer.proofs.lines.put_rights.Goals as goal

pub returns : goal.returns
unfolding rights_text
returns c =
    puts_then (puts_then c.put_right-a.ensures c.put_right-b.ensures) c.put_right.ensures
