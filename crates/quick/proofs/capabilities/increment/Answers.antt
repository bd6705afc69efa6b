-- What was read, moved and written.
use Rattle.std.proofs.Common.{refl}
use Rattle.quick.proofs.capabilities.increment.Goals as goal

pub returns : goal.returns
returns c =
    rw (c.write.ensures, c.move_address-moved.ensures, c.wrapping_add_u32.ensures.value, c.read_capability-c.ensures) refl
