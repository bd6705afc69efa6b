-- `span`: the difference modulo 512 is that of the definition, with t blocks. Assumes nothing.
use Rattle.std.proofs.Common.{arith, rules}
use Rattle.bounds.proofs.Program.{span_is}
use Rattle.bounds.proofs.shifts.span.Goals as goal

pub returns : goal.returns
returns c = (span_is c.args.top c.args.base (search rules) (search rules), omega arith)
