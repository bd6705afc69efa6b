-- No cause is the effect, any other the trap: the code's one test is the definition's.
use Rattle.state.specs.Checks.{checked}
use Rattle.words.proofs.Tests.{tests}
use Rattle.state.proofs.checks.checked_effect.Goals as goal

pub returns-then-cause-eq-NO_CAUSE : goal.returns-then-cause-eq-NO_CAUSE
unfolding checked
returns-then-cause-eq-NO_CAUSE c = search tests

pub returns-else-cause-eq-NO_CAUSE : goal.returns-else-cause-eq-NO_CAUSE
unfolding checked
returns-else-cause-eq-NO_CAUSE c = search tests
