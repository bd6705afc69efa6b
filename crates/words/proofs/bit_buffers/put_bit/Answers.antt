-- Inside, the byte is the one that `with_bit` gives; outside, setting changes nothing.
use Rattle.std.proofs.Common.{◌/◌, sym}
use lib.Seq.{set_out}
use Rattle.words.specs.Words.{put_bit}
use Rattle.words.proofs.bit_buffers.put_bit.Goals as goal

pub returns-then-at-t : goal.returns-then-at-t
unfolding put_bit
returns-then-at-t c = simp (c.with_bit.ensures.0, c.from.ensures)

pub returns-else-at-t : goal.returns-else-at-t
unfolding put_bit
returns-else-at-t c = let a = c.args in sym (set_out a.t.now (a.g / 8) _ c.if-at-t.false)
