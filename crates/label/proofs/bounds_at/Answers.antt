-- `bounds_at`: each bound of the region that `bounds` promises. Assumes nothing.
use Rattle.label.proofs.bounds_at.Goals as goal

pub returns : goal.returns
returns c = (cc c.bounds.ensures, cc c.bounds.ensures)
