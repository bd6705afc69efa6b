-- The region read contains the range.
use Rattle.capability.specs.Capability.{covers}
use Rattle.capability.proofs.reading.covers_range.Goals as goal

pub returns : goal.returns
unfolding covers
returns c = simp (c.contains.ensures, c.bounds_of.ensures.0)
