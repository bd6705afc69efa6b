-- The same arithmetic.
use Rattle.std.proofs.Common.{refl}
use Rattle.state.specs.Marks.{cleared}
use Rattle.state.proofs.marks.clear_low.Goals as goal

pub returns : goal.returns
unfolding cleared
returns c = refl
