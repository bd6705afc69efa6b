-- With nothing left the limit 0 promises nothing.
use Rattle.std.proofs.Common.{arith}
use Rattle.quick.proofs.pace.limit_while.Goals as goal

pub returns-then-credit-eq0 : goal.returns-then-credit-eq0
returns-then-credit-eq0 c = λ h. absurd (omega (arith, h))
