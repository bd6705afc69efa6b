-- Where a case has its own function, that one gives the operation of the instruction that the arm was told.
use Rattle.operations.proofs.of_memory.Goals as goal

pub returns-in-Load : goal.returns-in-Load
returns-in-Load c = rw c.in-Load.is c.load.ensures

pub returns-in-Store : goal.returns-in-Store
returns-in-Store c = rw c.in-Store.is c.store.ensures
