-- An increment by what was read.
use Rattle.std.proofs.Common.{refl}
use Rattle.quick.proofs.capabilities.increment_by.Goals as goal

pub returns : goal.returns
returns c = rw (c.increment.ensures, c.read-offset.ensures) refl
