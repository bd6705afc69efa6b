-- The definition's three bits: a remainder by 8 is below 8.
use mathlib.Core.Path.{refl}
use native.Mathlib.Omega.{arith}
use Rattle.metadata.specs.Word.{type_of}
use Rattle.metadata.proofs.word.otype.Goals as goal

pub returns : goal.returns
unfolding type_of
returns c = (refl, omega arith)
