-- The byte at g / 8 with no place added.
use Rattle.std.proofs.Common.{add-zero}
use Rattle.words.specs.Words.{bit_at}
use Rattle.words.proofs.bit_buffers.get_bit.Goals as goal

pub returns : goal.returns
unfolding bit_at
returns c = simp (c.from.ensures, c.byte_from.ensures, add-zero)
