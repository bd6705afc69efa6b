-- A bit replaced is the parts above and below it with the new bit between: law `with_bit_is` at MIE.
use Rattle.words.proofs.Bits.{with_bit_is}
use Rattle.state.specs.Status.{MIE}
use Rattle.std.proofs.Common.{arith}
use Rattle.state.proofs.status.with_mie.Goals as goal

pub returns : goal.returns
returns c = rw (with_bit_is c.args.mstatus MIE c.args.v) (omega arith)
