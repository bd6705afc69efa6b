-- The lowest nine bits: a remainder by 512 is below 512.
use mathlib.Core.Path.{refl}
use native.Mathlib.Omega.{arith}
use Rattle.metadata.specs.Word.{base_of}
use Rattle.metadata.proofs.word.base_of.Goals as goal

pub returns : goal.returns
unfolding base_of
returns c = (refl, omega arith)
