-- The test is the definition's; a negative word is 2 ^ 31 at least, so what wraps to 0 with it is its size.
use Rattle.std.proofs.Common.{sym, refl, ◌∙◌, arith}
use Rattle.words.specs.Multiply.{size_of}
use Rattle.words.proofs.Readings.{negative_large}
use Rattle.words.proofs.multiply.size.Goals as goal

pub returns-then-is_negative : goal.returns-then-is_negative
unfolding size_of
returns-then-is_negative c =
    let a = c.args in
    rw (← c.is_negative.ensures, c.if-is_negative.true)
    (omega (arith, c.wrapping_neg.ensures, negative_large a.reading a.x (sym c.is_negative.ensures ∙ c.if-is_negative.true)))

pub returns-else-is_negative : goal.returns-else-is_negative
unfolding size_of
returns-else-is_negative c = rw (← c.is_negative.ensures, c.if-is_negative.false) refl
