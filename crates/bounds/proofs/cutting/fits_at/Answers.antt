-- `fits_at`: both ends in whole units. Assumes nothing.
use Rattle.bounds.specs.Cutting.{fits_at, floor_at}
use Rattle.bounds.proofs.cutting.fits_at.Goals as goal

pub returns : goal.returns
unfolding fits_at floor_at
returns c = simp (c.scaled.ensures.0, c.block.ensures.0, c.round_up.ensures.0)
