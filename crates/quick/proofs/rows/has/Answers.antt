-- The tag, and what the row says.
use Rattle.std.proofs.Common.{sym, true≢false}
use Rattle.quick.proofs.rows.has.Goals as goal

pub returns-then-c-ne1 : goal.returns-then-c-ne1
returns-then-c-ne1 c = λ h. absurd (true≢false (sym h))

pub returns : goal.returns
returns c = λ h. let r = c.in_row.ensures h in (c.if-c-ne1.false, r.0, r.1)
