-- The test is the definition's; below 2^31 the double does not wrap.
use Rattle.std.proofs.Common.{mod-lt, arith, le-ltb}
use Rattle.words.proofs.Tests.{tests}
use Rattle.words.proofs.integers.extend.Goals as goal

pub overflow_mul-low : goal.overflow_mul-low
overflow_mul-low c = omega (arith, mod-lt c.args.x c.requires.0)

pub overflow_add-result-else-low-p : goal.overflow_add-result-else-low-p
overflow_add-result-else-low-p c = omega (arith, mod-lt c.args.x c.requires.0)

pub returns-then-low-p : goal.returns-then-low-p
returns-then-low-p c = search tests

pub returns-else-low-p : goal.returns-else-low-p
returns-else-low-p c = simp (le-ltb _ _ c.if-low-p.false) (omega arith)
