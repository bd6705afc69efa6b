-- What is above E stays; E, T and B, each cut to its bits, fit below it, so that no sum overflows.
use mathlib.Core.Path.{refl}
use Rattle.metadata.specs.Word.{with_bounds}
use Rattle.metadata.proofs.word.with_bounds.Goals as goal

pub returns : goal.returns
unfolding with_bounds
returns c = refl
