-- `put_line`: the number, which is one of 64 bits, a tab and the outcome, one after the other. Assumes nothing.
use Rattle.cut_lines.specs.Scanning.{answered}
use Rattle.cut_lines.proofs.Lengths.{answered_le}
use Rattle.text.proofs.Putting.{puts_between}
use Rattle.cut_lines.proofs.lines.put_line.Goals as goal

pub returns : goal.returns
unfolding answered
returns c = (
  answered_le c.args.s c.well_formed.1.1.0.1.1.0.1,
  puts_between c.put_decimal-a.ensures c.put_byte-b.ensures c.put_outcome.ensures,
)
