-- `ones`: 2^e is at least 1 and at most 2^24. Assumes nothing.
use Rattle.std.proofs.Common.{arith, pow_pos}
use Rattle.bounds.proofs.Program.{one_shl, unit_le}
use Rattle.bounds.proofs.shifts.Exponent.ones.Goals as goal

pub overflow_sub-result : goal.overflow_sub-result
overflow_sub-result c = omega (arith, one_shl c.args.self.value (omega arith), pow_pos c.args.self.value)

pub returns : goal.returns
returns c = omega (arith, one_shl c.args.self.value (omega arith), pow_pos c.args.self.value, unit_le c.args.self.value (omega arith))
