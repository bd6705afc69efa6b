-- By EX: with it two ranges of types, without it one.
use Rattle.capability.specs.Sealing.{permitted_type}
use Rattle.capability.proofs.sealing.permitted_type.Goals as goal

-- executable
pub returns-then-has_right : goal.returns-then-has_right
unfolding permitted_type
returns-then-has_right c =
    rw (c.either.ensures, c.within-then-has_right.ensures, c.within.ensures, ← c.has_right.ensures, c.if-has_right.true)

-- not executable
pub returns-else-has_right : goal.returns-else-has_right
unfolding permitted_type
returns-else-has_right c = rw (c.within-else-has_right.ensures, ← c.has_right.ensures, c.if-has_right.false)
