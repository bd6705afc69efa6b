-- The definition's six bits: a remainder by 64 is below 64.
use mathlib.Core.Path.{refl}
use native.Mathlib.Omega.{arith}
use Rattle.metadata.specs.Word.{permissions_of}
use Rattle.metadata.proofs.word.permissions.Goals as goal

pub returns : goal.returns
unfolding permissions_of
returns c = (refl, omega arith)
