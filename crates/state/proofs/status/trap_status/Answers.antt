-- MPIE from MIE as read, then MIE cleared: two bits one after the other.
use Rattle.state.specs.Status.{trap_status}
use Rattle.state.proofs.status.trap_status.Goals as goal

pub returns : goal.returns
unfolding trap_status
returns c = simp (c.with_mie.ensures, c.with_mpie.ensures, c.mie_of.ensures)
