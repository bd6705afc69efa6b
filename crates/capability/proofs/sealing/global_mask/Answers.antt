-- One of two masks, chosen by the authority's GL.
use Rattle.capability.specs.Sealing.{global_mask}
use Rattle.capability.proofs.sealing.global_mask.Goals as goal

pub returns : goal.returns
unfolding global_mask
returns c = simp (c.choose.ensures.0, c.has_right.ensures)
