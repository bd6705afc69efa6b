-- The test is the definition's.
use Rattle.std.proofs.Common.{refl}
use Rattle.words.proofs.multiply.excess.Goals as goal

pub returns-then-is_negative : goal.returns-then-is_negative
returns-then-is_negative c = rw (← c.is_negative.ensures, c.if-is_negative.true) refl

pub returns-else-is_negative : goal.returns-else-is_negative
returns-else-is_negative c = rw (← c.is_negative.ensures, c.if-is_negative.false) refl
