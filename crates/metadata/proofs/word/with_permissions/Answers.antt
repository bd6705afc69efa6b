-- The bit above and the bits below the code stay; a code below 64 fits between them.
use mathlib.Core.Path.{refl}
use Rattle.metadata.specs.Word.{with_permissions}
use Rattle.metadata.proofs.word.with_permissions.Goals as goal

pub returns : goal.returns
unfolding with_permissions
returns c = refl
