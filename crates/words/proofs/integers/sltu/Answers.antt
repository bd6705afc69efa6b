-- The test as 1 or 0.
use Rattle.words.specs.Words.{sltu_of}
use Rattle.words.proofs.Tests.{byte_is}
use Rattle.words.proofs.integers.sltu.Goals as goal

pub returns : goal.returns
unfolding sltu_of
returns c = simp (c.from.ensures, byte_is)
