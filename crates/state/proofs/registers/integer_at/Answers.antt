-- The word read at the register's address word.
use Rattle.state.specs.Registers.{integer_at}
use Rattle.state.proofs.registers.integer_at.Goals as goal

pub returns : goal.returns
unfolding integer_at
returns c = c.word_at.ensures
