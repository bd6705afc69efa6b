-- Each field in its place: the sum never leaves 32 bits, and it is the definition's.
use mathlib.Core.Path.{refl}
use Rattle.metadata.specs.Word.{word_of}
use Rattle.metadata.proofs.word.join.Goals as goal

pub returns : goal.returns
unfolding word_of
returns c = refl
