-- The name and the operands, or the digits.
use Rattle.listing.specs.Lines.{body_with}
use Rattle.text.proofs.Putting.{puts_then}
use Rattle.std.proofs.Common.{le-ltb, lt-ltb}
use Rattle.listing.proofs.lines.put_body.Goals as goal

pub returns-then-row-lt-ROWS : goal.returns-then-row-lt-ROWS
unfolding body_with
returns-then-row-lt-ROWS c = rw (lt-ltb _ _ c.if-row-lt-ROWS.true)
    (puts_then c.put_name-i.ensures c.put_operands.ensures)

pub returns : goal.returns
unfolding body_with
returns c = rw (le-ltb _ _ c.if-row-lt-ROWS.false, ← c.figures.ensures.0)
    c.put_hex.ensures
