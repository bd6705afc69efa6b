-- By the width: 0 leaves the number, 1 nothing; 2, 4 and 8 are the same remainder written out.
use Rattle.std.proofs.Common.{arith}
use native.Mathlib.Nat.{mod-zero}
use Rattle.state.proofs.memory.remainder.Goals as goal

pub returns-in-0 : goal.returns-in-0
returns-in-0 c = simp (c.in-0.is, mod-zero)

pub returns-in-1 : goal.returns-in-1
returns-in-1 c = simp c.in-1.is (omega arith)

pub returns-in-2 : goal.returns-in-2
returns-in-2 c = simp c.in-2.is

pub returns-in-4 : goal.returns-in-4
returns-in-4 c = simp c.in-4.is

pub returns-in-8 : goal.returns-in-8
returns-in-8 c = simp c.in-8.is
