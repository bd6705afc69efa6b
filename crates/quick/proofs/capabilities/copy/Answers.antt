-- The three words read, written.
use Rattle.std.proofs.Common.{refl}
use Rattle.quick.proofs.capabilities.copy.Goals as goal

pub returns : goal.returns
returns c = rw (c.write.ensures, c.read_capability-c.ensures) refl
