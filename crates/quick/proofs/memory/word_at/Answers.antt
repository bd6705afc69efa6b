-- The code adds what the definition does.
use Rattle.std.proofs.Common.{add-zero, arith}
use Rattle.words.specs.Words.{le_bytes}
use Rattle.quick.proofs.memory.word_at.Goals as goal

pub returns : goal.returns
unfolding le_bytes
returns c = rw add-zero (omega arith)
