-- `put_bytes`: the bytes left, put from their place on, lead to the whole. Assumes nothing.
use Rattle.std.proofs.Common.{◌≡◌, ◌+◌, drop}
use Rattle.words.specs.Words.{put_list}
use Rattle.words.proofs.buffers.put_bytes.Given as goal

abbrev pub invariant-loop-k : goal.invariant-loop-k
invariant-loop-k g l = put_list (drop l.k l.byte-items) l.m (l.at + l.k) ≡ put_list l.byte-items l.initial.m l.at
