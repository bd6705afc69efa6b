-- `suggestion`: a difference of natural numbers is 0 where the second is the larger. Assumes nothing.
use Rattle.std.proofs.Common.{arith}
use Rattle.bounds.specs.Cutting.{suggestion}
use Rattle.bounds.proofs.cutting.suggestion.Goals as goal

pub returns : goal.returns
unfolding suggestion
returns c = omega arith
