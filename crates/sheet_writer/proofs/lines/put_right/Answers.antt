-- `put_right`: one letter or none. Assumes nothing.
use Rattle.text.proofs.Putting.{puts_none}
use Rattle.sheet_writer.proofs.lines.put_right.Goals as goal

pub returns-then-on : goal.returns-then-on
returns-then-on c = simp c.if-on.true c.put_byte.ensures

pub returns-else-on : goal.returns-else-on
returns-else-on c = simp c.if-on.false (puts_none c.args.out.now c.args.at)
