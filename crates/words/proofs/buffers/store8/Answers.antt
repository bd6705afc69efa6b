-- The bytes of the value, put one after another as the definition does.
use Rattle.std.proofs.Common.{add-zero, div-one}
use Rattle.words.specs.Words.{put_list, set_bytes}
use Rattle.words.proofs.buffers.store8.Goals as goal

pub returns : goal.returns
unfolding put_list set_bytes
returns c = simp (c.put_byte_from.ensures, c.to_le_bytes.ensures, add-zero, div-one)
