-- The definition's record, field for field.
use mathlib.Core.Path.{refl}
use Rattle.capability.proofs.changing.integer.Goals as goal

pub returns : goal.returns
returns c = refl
