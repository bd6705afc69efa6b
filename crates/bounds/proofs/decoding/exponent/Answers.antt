-- `exponent`: the choice is the definition's. Assumes nothing.
use Rattle.bounds.specs.Bounds.{exponent_of}
use Rattle.bounds.proofs.decoding.exponent.Goals as goal

pub returns : goal.returns
unfolding exponent_of
returns c = simp c.choose.ensures.0
