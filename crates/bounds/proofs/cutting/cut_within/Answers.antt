-- `cut_within`: the bounds of the cut's own word at the base, compared with the request. Assumes nothing.
use Rattle.bounds.specs.Cutting.{cut_low, cut_high, cut_exact}
use Rattle.bounds.specs.Bounds.{bounds_of}
use Rattle.bounds.proofs.cutting.cut_within.Goals as goal

pub returns : goal.returns
unfolding cut_low cut_high cut_exact bounds_of
returns c =
    simp (c.both-exact.ensures, c.bounds-region.ensures, c.with_cut.ensures)
