-- Where a case has its own function, that one gives the operation of the instruction that the arm was told.
use Rattle.operations.proofs.operation_of.Goals as goal

pub returns-in-Integer : goal.returns-in-Integer
returns-in-Integer c = rw c.in-Integer.is c.of_integer.ensures

pub returns-in-Jump : goal.returns-in-Jump
returns-in-Jump c = rw c.in-Jump.is c.of_jump.ensures

pub returns-in-Memory : goal.returns-in-Memory
returns-in-Memory c = rw c.in-Memory.is c.of_memory.ensures

pub returns-in-Capability : goal.returns-in-Capability
returns-in-Capability c = rw c.in-Capability.is c.of_capability.ensures

pub returns-in-System : goal.returns-in-System
returns-in-System c = rw c.in-System.is (tt, tt)

pub returns-in-Illegal : goal.returns-in-Illegal
returns-in-Illegal c = rw c.in-Illegal.is (tt, tt)
