-- What wraps is the low half, as the definition has it.
use mathlib.Core.Path.{refl}
use Rattle.words.specs.Multiply.{product_low}
use Rattle.words.proofs.multiply.product_low.Goals as goal

pub returns : goal.returns
unfolding product_low
returns c = refl
