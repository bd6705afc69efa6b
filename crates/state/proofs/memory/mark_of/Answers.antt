-- The bit compared with 1 is the definition's test.
use Rattle.words.proofs.Tests.{tests}
use Rattle.state.proofs.memory.mark_of.Goals as goal

pub returns-then-bit-eq1 : goal.returns-then-bit-eq1
returns-then-bit-eq1 c = search tests

pub returns-else-bit-eq1 : goal.returns-else-bit-eq1
returns-else-bit-eq1 c = search tests
