-- One byte from the place on is the definition at n = 1.
use Rattle.std.proofs.Common.{add-zero, arith}
use Rattle.words.specs.Words.{le_bytes}
use Rattle.words.proofs.buffers.load8.Goals as goal

pub returns : goal.returns
unfolding le_bytes
returns c = simp (c.from.ensures, c.byte_from.ensures, add-zero) (omega arith)
