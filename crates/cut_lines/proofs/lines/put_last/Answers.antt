-- `put_last`: nothing for a line that has not begun, else its line. Assumes nothing.
use Rattle.std.proofs.Common.{sym, ◌∙◌, arith}
use Rattle.cut_lines.specs.Scanning.{last_text}
use Rattle.text.proofs.Putting.{puts_none}
use Rattle.cut_lines.proofs.lines.put_last.Goals as goal

pub returns-else-has_begun : goal.returns-else-has_begun
unfolding last_text
returns-else-has_begun c =
    let a = c.args in
    rw (sym c.has_begun.ensures ∙ c.if-has_begun.false) (omega arith, puts_none a.out.now a.at)
