-- Zero less n is the word of minus n; without a minus, n is its own word.
use Rattle.std.proofs.Common.{true, arith}
use Rattle.words.specs.Multiply.{with_sign}
use Rattle.words.proofs.Readings.{word_natural, word_minus, word_lt}
use Rattle.words.proofs.multiply.with_sign.Goals as goal

pub returns-then-negative : goal.returns-then-negative
returns-then-negative c =
    let at_call = c.args in
    rw c.if-negative.true (omega (arith, c.wrapping_neg.ensures, word_minus at_call.size, word_lt (with_sign true at_call.size)))

pub returns-else-negative : goal.returns-else-negative
returns-else-negative c =
    rw c.if-negative.false (omega (arith, word_natural c.args.size))
