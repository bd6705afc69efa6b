-- The cut of what was read, written.
use Rattle.std.proofs.Common.{refl}
use Rattle.quick.proofs.capabilities.cut.Goals as goal

pub returns : goal.returns
returns c =
    rw (c.write.ensures, c.set_bounds.ensures, c.read_capability-c.ensures) refl
