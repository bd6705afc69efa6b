-- Register 0 is not written; any other is set.
use Rattle.std.proofs.Common.{eq-eqb, ne_eqb}
use Rattle.state.specs.Registers.{write_register}
use Rattle.state.proofs.registers.write_register.Goals as goal

pub returns-then-rd-ne0 : goal.returns-then-rd-ne0
unfolding write_register
returns-then-rd-ne0 c =
    simp (ne_eqb _ _ c.if-rd-ne0.true, c.set_capability.ensures)

pub returns-else-rd-ne0 : goal.returns-else-rd-ne0
unfolding write_register
returns-else-rd-ne0 c = simp (eq-eqb _ _ c.if-rd-ne0.false)
