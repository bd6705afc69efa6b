-- MIE from MPIE as read, then MPIE set: two bits one after the other.
use Rattle.state.specs.Status.{return_status}
use Rattle.state.proofs.status.return_status.Goals as goal

pub returns : goal.returns
unfolding return_status
returns c = simp (c.with_mpie.ensures, c.with_mie.ensures, c.mpie_of.ensures)
