-- `cut_all`: the header, and then a line for each of the input's. Assumes nothing.
use Rattle.std.proofs.Common.{arith}
use Rattle.cut.proofs.Moves.{run_written}
use Rattle.cut.proofs.cut_all.Goals as goal

pub returns : goal.returns
returns g c = run_written c.take_all.new.input c.take_all.result _ _ _ _ _ (omega arith) c.in_ok-write_header.ensures.written c.take_all.ensures.moved
