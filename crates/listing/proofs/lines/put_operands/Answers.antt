-- One after the other.
use Rattle.listing.specs.Lines.{operands_text}
use Rattle.text.proofs.Putting.{puts_then}
use Rattle.listing.proofs.lines.put_operands.Goals as goal

pub returns : goal.returns
unfolding operands_text
returns c =
    rw (c.shown.ensures, c.shown-2.ensures, c.shown-3.ensures) at
    (puts_then c.put_operand-i.ensures (puts_then c.put_operand-j.ensures c.put_operand.ensures))
