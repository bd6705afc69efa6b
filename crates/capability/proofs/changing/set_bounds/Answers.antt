-- The tag by the seal and by whether the bounds cover the request; the word by its cut.
use Rattle.capability.specs.Capability.{set_bounds_of}
use Rattle.capability.proofs.changing.set_bounds.Goals as goal

pub returns : goal.returns
unfolding set_bounds_of
returns c = simp (c.cut_if.ensures, c.covers_cut.ensures)
