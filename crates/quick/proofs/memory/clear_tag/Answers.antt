-- A tag that is not set is left: putting 0 where 0 is changes nothing.
use Rattle.quick.proofs.Accesses.{bit_unset}
use Rattle.quick.proofs.memory.clear_tag.Goals as goal

pub returns-else-get_bit-eq1 : goal.returns-else-get_bit-eq1
returns-else-get_bit-eq1 c = bit_unset _ _ _ c.get_bit.ensures c.if-get_bit-eq1.false
