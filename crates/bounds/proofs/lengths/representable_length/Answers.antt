-- `representable_length`: the rounding at the exponent of the cut of [0, length). Assumes nothing.
use Rattle.std.proofs.Common.{zero-add}
use Rattle.bounds.specs.Lengths.{representable_length}
use Rattle.bounds.proofs.lengths.representable_length.Goals as goal

pub returns : goal.returns
unfolding representable_length
returns c = simp (c.round_up.ensures.0, c.cut_exponent-e.ensures, zero-add)
