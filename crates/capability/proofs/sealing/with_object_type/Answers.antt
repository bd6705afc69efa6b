-- The word with another type; address and tag are the same.
use Rattle.capability.specs.Sealing.{with_object_type}
use Rattle.capability.proofs.sealing.with_object_type.Goals as goal

pub returns : goal.returns
unfolding with_object_type
returns c = simp (c.with_type-metadata.ensures)
