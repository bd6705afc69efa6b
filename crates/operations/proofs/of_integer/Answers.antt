-- Each case has its own function, which gives the operation of the instruction that the arm was told.
use Rattle.operations.proofs.of_integer.Goals as goal

pub returns-in-Lui : goal.returns-in-Lui
returns-in-Lui c = rw c.in-Lui.is c.put.ensures

pub returns-in-OpImm : goal.returns-in-OpImm
returns-in-OpImm c = rw c.in-OpImm.is c.immediate.ensures

pub returns-in-Op : goal.returns-in-Op
returns-in-Op c = rw c.in-Op.is c.two.ensures

pub returns-in-Multiply : goal.returns-in-Multiply
returns-in-Multiply c = rw c.in-Multiply.is c.multiply.ensures

pub returns-in-Divide : goal.returns-in-Divide
returns-in-Divide c = rw c.in-Divide.is c.divide.ensures
