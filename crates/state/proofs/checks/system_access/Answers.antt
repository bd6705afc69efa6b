-- SR among the rights read decides between the cause and none.
use Rattle.state.specs.Checks.{system_access}
use Rattle.state.proofs.checks.system_access.Goals as goal

pub returns-then-not-has : goal.returns-then-not-has
unfolding system_access
returns-then-not-has c = simp (← c.rights_of.ensures.0, ← c.has.ensures, c.if-not-has.true-raw)

pub returns : goal.returns
unfolding system_access
returns c = simp (← c.rights_of.ensures.0, ← c.has.ensures, c.if-not-has.false-raw)
