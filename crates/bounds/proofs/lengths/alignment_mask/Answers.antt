-- `alignment_mask`: ones above the exponent are what is left above 2^e - 1 ones. Assumes nothing.
use Rattle.std.proofs.Common.{zero-add, arith, pow_pos}
use Rattle.bounds.specs.Cutting.{cut_exponent}
use Rattle.bounds.specs.Lengths.{alignment_mask}
use Rattle.bounds.proofs.lengths.alignment_mask.Goals as goal

pub returns : goal.returns
unfolding alignment_mask
returns c = rw (c.ones.ensures.0, c.cut_exponent-e.ensures, zero-add) (omega (arith, pow_pos (cut_exponent 0 c.args.length)))
