-- The test as 1 or 0.
use Rattle.words.specs.Words.{slt_of}
use Rattle.words.proofs.Tests.{byte_is}
use Rattle.words.proofs.integers.slt.Goals as goal

pub returns : goal.returns
unfolding slt_of
returns c = simp (c.from.ensures, c.less_signed.ensures, byte_is)
