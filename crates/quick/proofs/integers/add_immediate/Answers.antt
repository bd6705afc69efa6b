-- The sum is the adder's.
use Rattle.integer_instructions.specs.Integer.{alu_of}
use Rattle.std.proofs.Common.{refl}
use Rattle.quick.proofs.integers.add_immediate.Goals as goal

pub returns : goal.returns
unfolding alu_of
returns c =
    rw (c.put_any.ensures, c.wrapping_add_u32-sum.ensures.value, c.read.ensures) refl
