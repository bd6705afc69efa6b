-- The same fields with tag 0: both sides are one record.
use mathlib.Core.Path.{refl}
use Rattle.capability.specs.Capability.{clear_tag}
use Rattle.capability.proofs.changing.clear_tag.Goals as goal

pub returns : goal.returns
unfolding clear_tag
returns c = refl
