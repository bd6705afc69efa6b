-- `put_byte`: one store, or none where the buffer ends before. Assumes nothing.
use Rattle.text.proofs.Putting.{puts_byte, puts_past}
use Rattle.text.proofs.put_byte.Goals as goal

pub returns-then-at-out : goal.returns-then-at-out
returns-then-at-out g c = puts_byte _ _ _ c.if-at-out.true

pub returns-else-at-out : goal.returns-else-at-out
returns-else-at-out g c = puts_past _ _ _ c.if-at-out.false
