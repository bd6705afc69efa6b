-- The bits above and below the type stay; the type is cut to three bits and fits between them.
use mathlib.Core.Path.{refl}
use Rattle.metadata.specs.Word.{with_type}
use Rattle.metadata.proofs.word.with_type.Goals as goal

pub returns : goal.returns
unfolding with_type
returns c = refl
