-- A tab and the number, or nothing.
use Rattle.listing.specs.Lines.{operand_text}
use Rattle.text.proofs.Putting.{puts_then, puts_none}
use Rattle.listing.proofs.lines.put_operand.Goals as goal

pub returns-in_default : goal.returns-in_default
unfolding operand_text
returns-in_default c = rw c.in_default.is (puts_none c.args.out.now c.args.at)

pub returns : goal.returns
unfolding operand_text
returns c = rw c.in-Some.is (puts_then c.put_byte-i.ensures c.put_signed.ensures)
