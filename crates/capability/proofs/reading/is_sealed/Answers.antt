-- The type read from the word is not that of an unsealed one.
use Rattle.capability.specs.Capability.{sealed}
use Rattle.capability.proofs.reading.is_sealed.Goals as goal

pub returns : goal.returns
unfolding sealed
returns c = simp c.otype.ensures.0
