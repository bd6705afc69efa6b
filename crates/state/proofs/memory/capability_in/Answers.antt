-- Two words loaded and one bit of the tags.
use Rattle.state.specs.Memory.{capability_in}
use Rattle.state.proofs.memory.capability_in.Goals as goal

pub returns : goal.returns
unfolding capability_in
returns c = simp (c.get_bit.ensures, c.load32-2.ensures, c.load32.ensures)
