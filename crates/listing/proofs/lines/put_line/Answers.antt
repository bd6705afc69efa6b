-- The body and a newline.
use Rattle.listing.specs.Lines.{body_of, line_of}
use Rattle.text.proofs.Putting.{puts_then}
use Rattle.listing.proofs.lines.put_line.Goals as goal

pub returns : goal.returns
unfolding body_of line_of
returns c = puts_then (rw c.shape_of.ensures at
    c.put_body-i.ensures) c.put_byte.ensures
