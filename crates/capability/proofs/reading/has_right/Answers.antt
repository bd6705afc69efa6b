-- One bit of the rights as read.
use Rattle.capability.proofs.reading.has_right.Goals as goal

pub returns : goal.returns
returns c = simp (c.has.ensures, c.rights_of.ensures.0)
