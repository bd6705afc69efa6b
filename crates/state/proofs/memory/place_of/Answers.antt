-- The remainder decides: 0 leaves where aligned bytes lie, else misaligned.
use Rattle.std.proofs.Common.{eq-eqb, ne_eqb}
use Rattle.state.specs.Memory.{place_of}
use Rattle.state.proofs.memory.place_of.Goals as goal

pub returns-then-remainder-eq0 : goal.returns-then-remainder-eq0
unfolding place_of
returns-then-remainder-eq0 c = simp (← c.remainder.ensures, eq-eqb _ _ c.if-remainder-eq0.true) c.aligned_place.ensures

pub returns-else-remainder-eq0 : goal.returns-else-remainder-eq0
unfolding place_of
returns-else-remainder-eq0 c = simp (← c.remainder.ensures, ne_eqb _ _ c.if-remainder-eq0.false)
