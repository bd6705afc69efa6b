-- The definition is the code's own comparison with 1.
use mathlib.Core.Path.{refl}
use Rattle.capability.specs.Capability.{tagged}
use Rattle.capability.proofs.reading.is_tagged.Goals as goal

pub returns : goal.returns
unfolding tagged
returns c = refl
