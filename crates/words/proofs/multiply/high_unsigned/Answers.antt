-- The product of two words is below 2 ^ 64, so its high half is a word.
use Rattle.std.proofs.Common.{sym, arith, rules}
use Rattle.words.proofs.Products.{below, high_unsigned_lem}
use Rattle.words.proofs.multiply.high_unsigned.Goals as goal

pub overflow_mul-result : goal.overflow_mul-result
overflow_mul-result c = omega (arith, below c.args.a c.args.b (search rules) (search rules))

pub overflow_cast-result-3 : goal.overflow_cast-result-3
overflow_cast-result-3 c = omega (arith, below c.args.a c.args.b (search rules) (search rules))

pub returns : goal.returns
returns c = sym (high_unsigned_lem c.args.a c.args.b (search rules) (search rules))
