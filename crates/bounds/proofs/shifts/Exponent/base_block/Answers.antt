-- `base_block`: the address in units and a block more is far below 2^64. Assumes nothing.
use Rattle.std.proofs.Common.{◌^◌, div-le_self, arith, rules}
use Rattle.bounds.proofs.shifts.Exponent.base_block.Goals as goal

pub overflow_add-result : goal.overflow_add-result
overflow_add-result c = record { fits = omega (arith, div-le_self c.args.address (2 ^ c.args.self.value)) }

pub returns : goal.returns
returns c = (search rules, omega (arith, div-le_self c.args.address (2 ^ c.args.self.value)))
