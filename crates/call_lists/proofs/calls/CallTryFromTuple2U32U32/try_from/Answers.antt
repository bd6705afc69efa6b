-- `try_from`: an arm a kind. Assumes nothing.
use borrow.Author.Tests.{le-ltb}
use native.Mathlib.Omega.{arith}
use Rattle.call_lists.specs.Lists.{call_of, is_known}
use Rattle.call_lists.proofs.calls.CallTryFromTuple2U32U32.try_from.Goals as goal

-- a cut
pub returns-in-0 : goal.returns-in-0
unfolding call_of is_known
returns-in-0 c = simp c.in-0.is

-- an exact cut
pub returns-in-1 : goal.returns-in-1
unfolding call_of is_known
returns-in-1 c = simp c.in-1.is

-- a move
pub returns-in-2 : goal.returns-in-2
unfolding call_of is_known
returns-in-2 c = simp c.in-2.is

-- a narrowing
pub returns-in-3 : goal.returns-in-3
unfolding call_of is_known
returns-in-3 c = simp c.in-3.is

-- no kind
pub returns-in_default : goal.returns-in_default
unfolding call_of is_known
returns-in_default c =
    let n = c.in_default.in_default-own.rest in
    simp (le-ltb c.args.lent.0 4 (omega arith))
