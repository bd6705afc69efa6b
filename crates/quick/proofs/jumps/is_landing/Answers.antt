-- Alignment, and what the row says.
use Rattle.std.proofs.Common.{sym, true≢false}
use Rattle.quick.proofs.jumps.is_landing.Goals as goal

pub returns-then-to-ne0 : goal.returns-then-to-ne0
returns-then-to-ne0 c = λ h. absurd (true≢false (sym h))

pub returns : goal.returns
returns c = λ h. let r = c.in_row.ensures h in record { is_even = c.if-to-ne0.false; own_fits = r.0; in_row = r.1 }
