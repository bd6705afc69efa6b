-- The integer, written.
use Rattle.std.proofs.Common.{refl}
use Rattle.quick.proofs.integers.put_any.Goals as goal

pub returns : goal.returns
returns c = rw (c.write.ensures, c.integer.ensures) refl
