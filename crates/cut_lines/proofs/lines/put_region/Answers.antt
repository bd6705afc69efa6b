-- `put_region`: two bounds and a word, with a tab between each two, one after the other. Assumes nothing.
use Rattle.text.proofs.Putting.{puts_between}
use Rattle.cut_lines.proofs.lines.put_region.Goals as goal

pub returns : goal.returns
returns c =
    puts_between (puts_between (rw c.from.ensures at c.put_hex-a.ensures) c.put_byte-b.ensures c.put_hex-c.ensures) c.put_byte-d.ensures
    c.put_exact.ensures
