-- Law `with_bit_is` at MPIE: the parts above and below stay, with the new bit between them.
use Rattle.words.proofs.Bits.{with_bit_is}
use Rattle.state.specs.Status.{MPIE}
use Rattle.std.proofs.Common.{arith}
use Rattle.state.proofs.status.with_mpie.Goals as goal

pub returns : goal.returns
returns c = rw (with_bit_is c.args.mstatus MPIE c.args.v) (omega arith)
