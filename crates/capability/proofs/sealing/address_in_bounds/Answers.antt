-- The region read holds the address.
use Rattle.capability.specs.Sealing.{address_in_bounds}
use Rattle.capability.proofs.sealing.address_in_bounds.Goals as goal

pub returns : goal.returns
unfolding address_in_bounds
returns c = simp (c.holds.ensures, c.bounds_of.ensures.0)
