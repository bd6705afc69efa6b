-- The definition's four bits of E: a remainder by 16 is below 16.
use mathlib.Core.Path.{refl}
use native.Mathlib.Omega.{arith}
use Rattle.metadata.specs.Word.{scale_of}
use Rattle.metadata.proofs.word.scale_of.Goals as goal

pub returns : goal.returns
unfolding scale_of
returns c = (refl, omega arith)
