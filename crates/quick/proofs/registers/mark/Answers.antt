-- The definition's two tests, each decided by the branch taken.
use Rattle.std.proofs.Common.{le-ltb, lt-ltb, le-leb}
use borrow.Author.Tests.{lt-leb}
use Rattle.state.specs.Marks.{below_mark, marked}
use Rattle.quick.proofs.registers.mark.Goals as goal

pub returns-then-address-regs : goal.returns-then-address-regs
unfolding below_mark marked
returns-then-address-regs c = simp (c.clear_low.ensures, le-leb _ _ c.if-regs-address.true, lt-ltb _ _ c.if-address-regs.true)

pub returns-else-address-regs : goal.returns-else-address-regs
unfolding below_mark marked
returns-else-address-regs c = simp (le-leb _ _ c.if-regs-address.true, le-ltb _ _ c.if-address-regs.false)

pub returns-else-regs-address : goal.returns-else-regs-address
unfolding below_mark marked
returns-else-regs-address c = simp (lt-leb _ _ c.if-regs-address.false)
