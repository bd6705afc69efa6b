-- `is_unrounded`: the two roundings at the cut's exponent, compared. Assumes nothing.
use Rattle.bounds.specs.Cutting.{unrounded, floor_at}
use Rattle.bounds.proofs.cutting.is_unrounded.Goals as goal

pub returns : goal.returns
unfolding unrounded floor_at
returns c =
    simp (c.both.ensures, c.round_up.ensures.0, c.block.ensures.0, c.cut_exponent-e.ensures)
