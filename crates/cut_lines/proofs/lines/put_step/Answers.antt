-- `put_step`: a line where the byte ends one, else nothing. Assumes nothing.
use Rattle.std.proofs.Common.{arith, ne_eqb}
use Rattle.cut_lines.specs.Scanning.{step_text}
use Rattle.text.proofs.Putting.{puts_none}
use Rattle.cut_lines.proofs.lines.put_step.Goals as goal

pub returns-else-b-eq10 : goal.returns-else-b-eq10
unfolding step_text
returns-else-b-eq10 c =
    let a = c.args in
    rw (ne_eqb a.b 10 c.if-b-eq10.false) (omega arith, puts_none a.out.now a.at)
