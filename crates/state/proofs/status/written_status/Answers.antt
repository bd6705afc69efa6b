-- Both bits of the word asked for are read and put in place of the old ones.
use Rattle.state.specs.Status.{written_status}
use Rattle.state.proofs.status.written_status.Goals as goal

pub returns : goal.returns
unfolding written_status
returns c =
    simp (c.with_mpie.ensures, c.mpie_of.ensures, c.with_mie.ensures, c.mie_of.ensures)
