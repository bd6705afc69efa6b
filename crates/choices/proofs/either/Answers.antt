-- Where the first test passes the answer is true, else it is the second.
use Rattle.choices.proofs.either.Goals as goal

pub returns-then-a : goal.returns-then-a
returns-then-a c = rw c.if-a.true

pub returns-else-a : goal.returns-else-a
returns-else-a c = rw c.if-a.false
