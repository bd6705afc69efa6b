-- The bytes read, added as the definition does.
use Rattle.std.proofs.Common.{arith}
use Rattle.words.specs.Words.{le_bytes}
use Rattle.words.proofs.buffers.load32.Goals as goal

pub returns : goal.returns
unfolding le_bytes
returns c =
    let b = c.bytes_from.ensures in
    simp (c.from_le_bytes.ensures, b 0 (omega arith), b 1 (omega arith), b 2 (omega arith), b 3 (omega arith)) (omega arith)
