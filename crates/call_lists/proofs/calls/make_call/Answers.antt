-- `make_call`: an arm a call, each with its function's promise. Assumes nothing.
use Rattle.call_lists.specs.Calls.{make_call}
use Rattle.call_lists.proofs.calls.make_call.Goals as goal

-- a cut
pub returns-in-Cut : goal.returns-in-Cut
unfolding make_call
returns-in-Cut c = rw c.in-Cut.is c.set_bounds.ensures

-- an exact cut
pub returns-in-ExactCut : goal.returns-in-ExactCut
unfolding make_call
returns-in-ExactCut c = rw c.in-ExactCut.is c.set_bounds_exact.ensures

-- a move
pub returns-in-Move : goal.returns-in-Move
unfolding make_call
returns-in-Move c = rw c.in-Move.is c.move_address.ensures

-- a narrowing
pub returns-in-Narrow : goal.returns-in-Narrow
unfolding make_call
returns-in-Narrow c = rw c.in-Narrow.is c.narrow_rights.ensures
