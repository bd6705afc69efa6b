-- The comparison of the bounds at both addresses, once its low and high ends are unfolded.
use Rattle.capability.specs.Capability.{same_bounds, low, high}
use Rattle.capability.proofs.changing.same_bounds.Goals as goal

pub returns : goal.returns
unfolding same_bounds low high
returns c = c.same_bounds.ensures
