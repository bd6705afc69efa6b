-- Inside the file three plain reads are the definition's; else three reads with a default.
use Rattle.std.proofs.Common.{refl}
use Rattle.state.specs.Registers.{capability_at}
use Rattle.state.proofs.registers.capability_at.Goals as goal

pub returns-then-at-regs : goal.returns-then-at-regs
unfolding capability_at
returns-then-at-regs c = refl

pub returns-else-at-regs : goal.returns-else-at-regs
unfolding capability_at
returns-else-at-regs c = simp (c.word_at-else-at-regs-2.ensures, c.word_at-else-at-regs.ensures, c.word_at.ensures)
