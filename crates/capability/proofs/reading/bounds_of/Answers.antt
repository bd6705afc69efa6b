-- The decoded region is the definition's low and high; that high fits 33 bits is a law.
use Rattle.capability.specs.Capability.{low, high}
use Rattle.bounds.proofs.Limits.{bounds_are, high_lt}
use Rattle.capability.proofs.reading.bounds_of.Goals as goal

pub returns : goal.returns
unfolding low high
returns c = (simp (c.bounds.ensures, bounds_are), simp (c.bounds.ensures, bounds_are) (high_lt _ _))
