-- The result of one word read, written.
use Rattle.std.proofs.Common.{refl}
use Rattle.quick.proofs.integers.immediate.Goals as goal

pub returns : goal.returns
returns c =
    rw (c.put.ensures, c.alu-result.ensures, c.read.ensures) refl
