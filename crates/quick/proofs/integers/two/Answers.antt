-- The result of two words read, written.
use Rattle.std.proofs.Common.{refl}
use Rattle.quick.proofs.integers.two.Goals as goal

pub returns : goal.returns
returns c =
    rw (c.put.ensures, c.alu.ensures, c.read-b.ensures, c.read-a.ensures) refl
