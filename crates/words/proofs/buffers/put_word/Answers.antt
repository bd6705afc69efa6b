-- Outside the buffer, setting changes nothing.
use Rattle.std.proofs.Common.{sym}
use lib.Seq.{set_out}
use Rattle.words.proofs.buffers.put_word.Goals as goal

pub returns-else-i-l : goal.returns-else-i-l
returns-else-i-l c = let a = c.args in sym (set_out a.l.now a.i a.v c.if-i-l.false)
