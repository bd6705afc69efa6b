-- What was read, moved and written.
use Rattle.std.proofs.Common.{refl}
use Rattle.quick.proofs.capabilities.set_address.Goals as goal

pub returns : goal.returns
returns c =
    rw (c.write.ensures, c.move_address.ensures, c.read-address.ensures, c.read_capability-c.ensures) refl
