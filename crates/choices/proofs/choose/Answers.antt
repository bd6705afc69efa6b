-- By the test.
use native.Mathlib.Omega.{arith}
use Rattle.choices.proofs.choose.Goals as goal

pub returns-then-test : goal.returns-then-test
returns-then-test c = (simp c.if-test.true, omega arith)

pub returns-else-test : goal.returns-else-test
returns-else-test c = (simp c.if-test.false, omega arith)
