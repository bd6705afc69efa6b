-- The definition's nine bits of T: a remainder by 512 is below 512.
use mathlib.Core.Path.{refl}
use native.Mathlib.Omega.{arith}
use Rattle.metadata.specs.Word.{top_of}
use Rattle.metadata.proofs.word.top_of.Goals as goal

pub returns : goal.returns
unfolding top_of
returns c = (refl, omega arith)
