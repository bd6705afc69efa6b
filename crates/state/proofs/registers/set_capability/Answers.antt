-- Inside the file three plain writes, none of which changes its length; else three writes that may fall outside.
use Rattle.std.proofs.Common.{refl, arith, length-set}
use Rattle.state.specs.Registers.{set_capability}
use Rattle.state.proofs.registers.set_capability.Goals as goal

pub bounds-regs-at-then-at-regs : goal.bounds-regs-at-then-at-regs
bounds-regs-at-then-at-regs c = simp length-set (omega arith)

pub bounds-regs-at-then-at-regs-2 : goal.bounds-regs-at-then-at-regs-2
bounds-regs-at-then-at-regs-2 c = simp length-set (omega arith)

pub returns-then-at-regs : goal.returns-then-at-regs
unfolding set_capability
returns-then-at-regs c = refl

pub returns-else-at-regs : goal.returns-else-at-regs
unfolding set_capability
returns-else-at-regs c =
    simp (c.put_word-else-at-regs-2.ensures, c.put_word-else-at-regs.ensures, c.put_word.ensures)
