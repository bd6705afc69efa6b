-- The integer, written.
use Rattle.std.proofs.Common.{refl}
use Rattle.quick.proofs.integers.put.Goals as goal

pub returns : goal.returns
returns c = rw (c.write_some.ensures, c.integer.ensures) refl
