-- Where a case has its own function, that one gives the operation of the instruction that the arm was told.
use Rattle.operations.proofs.of_jump.Goals as goal

pub returns-in-Jal : goal.returns-in-Jal
returns-in-Jal c = rw c.in-Jal.is c.go.ensures

pub returns-in-Branch : goal.returns-in-Branch
returns-in-Branch c = rw c.in-Branch.is c.branch-kind.ensures
