-- `round_up`: the block of the number and one less than a unit. Assumes nothing.
use Rattle.bounds.specs.Cutting.{ceil_at}
use Rattle.std.proofs.Common.{rules}
use Rattle.bounds.proofs.shifts.Exponent.round_up.Goals as goal

pub returns : goal.returns
unfolding ceil_at
returns c = (cc, search rules)
